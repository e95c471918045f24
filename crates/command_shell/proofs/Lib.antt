pub mod WordsLemmas
mod DrawnLemmas
mod RefusedLemmas
mod PromptWordsLemmas
mod AnsweredLemmas
