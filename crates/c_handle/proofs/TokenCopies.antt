-- What tokens and their refusal say of what a call copies.
use Rattle.std.proofs.Common.{◌≡◌, ℕ, List, map, Option, Some, None, inr, option_map, refl, sym, subst}
use Rattle.abc_live.specs.Tokens.{RefusesLine}
use Rattle.abc_live.specs.declared.LineToken.{LineToken}
use Rattle.abc_live.specs.declared.TokensError.TheVariants.{NoSuchLine, OutOfMemory}
use Rattle.c_handle.specs.Copies.{CopyResult, copy_answer, lookup_answer}
use Rattle.c_handle.specs.TokenRecords.{CopiesFound, CopiesOrFails, token_record}
use Rattle.c_handle.specs.declared.codes.TheConstants.{CODE_NOT_FOUND, CODE_OUT_OF_MEMORY}
use Rattle.c_handle.specs.declared.token_record.TokenRecord.{TokenRecord}

-- the records of tokens, if there are any, are copied
abbrev pub CopiesRecords : Option (List LineToken) → List TokenRecord → CopyResult TokenRecord → Type 0
CopiesRecords tokens buffer answer =
    CopiesFound (option_map (map token_record) tokens) (lookup_answer (option_map (map token_record) tokens) buffer) buffer answer

-- tokens that are found are copied, or an allocation failed
pub copied : (tokens : Option (List LineToken)) (items : List LineToken) (buffer : List TokenRecord) (answer : CopyResult TokenRecord) → tokens ≡ Some items
    → CopiesOrFails (copy_answer (map token_record items) buffer) buffer answer → CopiesRecords tokens buffer answer
copied tokens items buffer answer found is = subst (λ (o : Option (List LineToken)). CopiesRecords o buffer answer) (sym found) is

-- a line that is missing has no tokens
pub missing : (read : List ℕ → List LineToken) (line : Option (List ℕ)) (buffer : List TokenRecord) → RefusesLine line NoSuchLine
    → CopiesRecords (option_map read line) buffer (CODE_NOT_FOUND, 0, buffer)
missing read None buffer e = refl
missing read (Some line) buffer e = absurd (cc)

-- an allocation fails only for a line that is there
pub failed : (read : List ℕ → List LineToken) (line : Option (List ℕ)) (buffer : List TokenRecord) → RefusesLine line OutOfMemory
    → CopiesRecords (option_map read line) buffer (CODE_OUT_OF_MEMORY, 0, buffer)
failed read None buffer e = absurd (cc)
failed read (Some line) buffer e = inr refl
