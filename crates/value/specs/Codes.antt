-- How refusals are written: the SQLSTATE and condition name of each code (PostgreSQL manual, appendix A), and a refusal's text.
use Rattle.std.specs.Prelude.{ℕ, List, [], ◌++◌, codes, decimal}
use Rattle.value.specs.declared.refusal.Code.{Code}
use Rattle.value.specs.declared.refusal.Code.TheVariants.{NumericValueOutOfRange, CharacterNotInRepertoire, InvalidTextRepresentation, BadCopyFileFormat, NotNullViolation, ForeignKeyViolation, UniqueViolation, ActiveSqlTransaction, ReadOnlySqlTransaction, NoActiveSqlTransaction, InFailedSqlTransaction, SerializationFailure, SyntaxError, UndefinedColumn, DatatypeMismatch, UndefinedTable, DuplicateTable, OutOfMemory, ProgramLimitExceeded, ObjectNotInPrerequisiteState}
use Rattle.value.specs.declared.refusal.Cause.{Cause}
use Rattle.value.specs.declared.refusal.Place.{Place}
use Rattle.value.specs.declared.refusal.Place.TheVariants as place
use Rattle.value.specs.declared.refusal.Refusal.{Refusal}

-- the five characters
abbrev pub sqlstate : Code → List ℕ
sqlstate NumericValueOutOfRange = codes "22003"
sqlstate CharacterNotInRepertoire = codes "22021"
sqlstate InvalidTextRepresentation = codes "22P02"
sqlstate BadCopyFileFormat = codes "22P04"
sqlstate NotNullViolation = codes "23502"
sqlstate ForeignKeyViolation = codes "23503"
sqlstate UniqueViolation = codes "23505"
sqlstate ActiveSqlTransaction = codes "25001"
sqlstate ReadOnlySqlTransaction = codes "25006"
sqlstate NoActiveSqlTransaction = codes "25P01"
sqlstate InFailedSqlTransaction = codes "25P02"
sqlstate SerializationFailure = codes "40001"
sqlstate SyntaxError = codes "42601"
sqlstate UndefinedColumn = codes "42703"
sqlstate DatatypeMismatch = codes "42804"
sqlstate UndefinedTable = codes "42P01"
sqlstate DuplicateTable = codes "42P07"
sqlstate OutOfMemory = codes "53200"
sqlstate ProgramLimitExceeded = codes "54000"
sqlstate ObjectNotInPrerequisiteState = codes "55000"

-- the condition's name
abbrev pub condition_name : Code → List ℕ
condition_name NumericValueOutOfRange = codes "numeric_value_out_of_range"
condition_name CharacterNotInRepertoire = codes "character_not_in_repertoire"
condition_name InvalidTextRepresentation = codes "invalid_text_representation"
condition_name BadCopyFileFormat = codes "bad_copy_file_format"
condition_name NotNullViolation = codes "not_null_violation"
condition_name ForeignKeyViolation = codes "foreign_key_violation"
condition_name UniqueViolation = codes "unique_violation"
condition_name ActiveSqlTransaction = codes "active_sql_transaction"
condition_name ReadOnlySqlTransaction = codes "read_only_sql_transaction"
condition_name NoActiveSqlTransaction = codes "no_active_sql_transaction"
condition_name InFailedSqlTransaction = codes "in_failed_sql_transaction"
condition_name SerializationFailure = codes "serialization_failure"
condition_name SyntaxError = codes "syntax_error"
condition_name UndefinedColumn = codes "undefined_column"
condition_name DatatypeMismatch = codes "datatype_mismatch"
condition_name UndefinedTable = codes "undefined_table"
condition_name DuplicateTable = codes "duplicate_table"
condition_name OutOfMemory = codes "out_of_memory"
condition_name ProgramLimitExceeded = codes "program_limit_exceeded"
condition_name ObjectNotInPrerequisiteState = codes "object_not_in_prerequisite_state"

-- the numbers of a structure's three transactions
abbrev pub cause_text : Cause → List ℕ
cause_text x = codes " cause " ++ decimal x.a.0 ++ codes " " ++ decimal x.b.0 ++ codes " " ++ decimal x.c.0

-- what follows the code
abbrev pub place_text : Place → List ℕ
place_text place.None = []
place_text (place.Byte n) = codes " byte " ++ decimal n
place_text (place.Column n) = codes " column " ++ decimal n
place_text (place.Table n) = codes " table " ++ decimal n
place_text place.Row = codes " row"
place_text (place.Cause x) = cause_text x

-- the code, and the place where there is one
abbrev pub refusal_text : Refusal → List ℕ
refusal_text r = sqlstate r.code ++ place_text r.place
