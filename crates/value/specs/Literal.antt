-- What a literal stands for: a value of its kind, or the code of its refusal
-- (PostgreSQL manual, 8.1.1 for bigint, 8.3 for text, 8.4.1 for bytea; this project reads no spaces and no other forms).
use Rattle.std.specs.Prelude.{ℕ, ℤ, pos, neg_ℤ, ◌^◌, ◌==◌, nat_le, nat_lt, nat_eq, ◌&&◌, not, Bool, true, false, if◌then◌else◌, List, length, drop, codes, Result, Ok, Err}
use Rattle.std.specs.List.{starts_with, list_any, list_all}
use Rattle.std.specs.Char.{is_ascii_digit}
use Rattle.std.specs.Str.{is_utf8}
use Rattle.std.specs.Str.Parse.{starts_with_minus, without_leading_sign, digits_value}
use Rattle.hex.specs.Hex.{decode_of}
use Rattle.value.specs.declared.kind.Kind.{Kind}
use Rattle.value.specs.declared.kind.Kind.TheVariants as kind
use Rattle.value.specs.declared.refusal.Code.{Code}
use Rattle.value.specs.declared.refusal.Code.TheVariants.{NumericValueOutOfRange, CharacterNotInRepertoire, InvalidTextRepresentation}
use Rattle.value.specs.declared.value.Value.{Value}
use Rattle.value.specs.declared.value.Value.TheVariants.{Int, Text, Bytes}

-- an optional sign, and at least one decimal digit
abbrev pub is_bigint_form : List ℕ → Bool
is_bigint_form text = nat_lt 0 (length (without_leading_sign text)) && list_all is_ascii_digit (without_leading_sign text)

-- the number of this magnitude, after a minus or after none, where 64 bits hold it
abbrev pub signed_number : Bool → ℕ → Result ℤ Code
signed_number true n = if nat_le n (2 ^ 63) then Ok (neg_ℤ (pos n)) else Err NumericValueOutOfRange
signed_number false n = if nat_lt n (2 ^ 63) then Ok (pos n) else Err NumericValueOutOfRange

-- a bigint: form first, then range
abbrev pub bigint_of : List ℕ → Result ℤ Code
bigint_of text =
    if is_bigint_form text then signed_number (starts_with_minus text) (digits_value 10 (without_leading_sign text))
    else Err InvalidTextRepresentation

-- a text: UTF-8 without the zero byte
abbrev pub text_of : List ℕ → Result (List ℕ) Code
text_of bytes = if is_utf8 bytes && not (list_any (λ b. b == 0) bytes) then Ok bytes else Err CharacterNotInRepertoire

-- what decoding gives, or the refusal
abbrev pub decoded : {E : Type 0} → Result (List ℕ) E → Result (List ℕ) Code
decoded (Ok bytes) = Ok bytes
decoded (Err e) = Err InvalidTextRepresentation

-- a bytea: `\x`, and an even number of hexadecimal digits
abbrev pub bytea_of : List ℕ → Result (List ℕ) Code
bytea_of text = if starts_with nat_eq text (codes "\\x") then decoded (decode_of (drop 2 text)) else Err InvalidTextRepresentation

module _ {A : Type 0} where
  abbrev pub as_int : Result ℤ Code → Result (Value A) Code
  as_int (Ok n) = Ok (Int n)
  as_int (Err code) = Err code

  abbrev pub as_text : Result (List ℕ) Code → Result (Value A) Code
  as_text (Ok bytes) = Ok (Text bytes)
  as_text (Err code) = Err code

  abbrev pub as_bytes : Result (List ℕ) Code → Result (Value A) Code
  as_bytes (Ok bytes) = Ok (Bytes bytes)
  as_bytes (Err code) = Err code

  -- the value of a literal of a kind
  abbrev pub literal_of : Kind → List ℕ → Result (Value A) Code
  literal_of kind.Bigint text = as_int (bigint_of text)
  literal_of kind.Text text = as_text (text_of text)
  literal_of kind.Bytea text = as_bytes (bytea_of text)
