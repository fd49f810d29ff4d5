-- What a play and its refusal say of what a call copies.
use Rattle.std.proofs.Common.{◌≡◌, ℕ, ◌≤◌, List, Option, Some, None, true, false, cond, nat_lt, option_map, inl, inr, refl, sym, ap, ap₂, ◌∙◌, subst, arith}
use Rattle.std.specs.Prelude.{IsSome}
use Rattle.std.proofs.lemmas.Bool.{false≢true}
use Rattle.std.proofs.lemmas.Bool.Decides.{nat_tests}
use Rattle.abc_lines.specs.Text.{Text}
use Rattle.abc_play.specs.Play.{block_of, block_play, play_of, play_size, size_of}
use Rattle.abc_play.specs.Refusal.{MOST_PLACES, RefusesPlay}
use Rattle.abc_play.specs.declared.play_error.PlayError.{PlayError}
use Rattle.abc_play.specs.declared.play_error.PlayError.TheVariants.{NoSuchNumber, TooLong, OutOfMemory}
use Rattle.c_handle.specs.Copies.{CopyResult, copy_answer, lookup_answer}
use Rattle.c_handle.specs.PlayRecords.{Tracks, play_answer, refusal_code}
use Rattle.c_handle.specs.TokenRecords.{CopiesFound, CopiesOrFails}
use Rattle.c_handle.specs.declared.codes.TheConstants.{CODE_OUT_OF_MEMORY, CODE_TOO_LONG}

-- the answer that is wanted is one, whether anything is found or not
as_wanted : {A B : Type 0} (found : Option B) (wanted : CopyResult A) (buffer : List A) (answer : CopyResult A) → answer ≡ wanted
    → CopiesFound found wanted buffer answer
as_wanted None wanted buffer answer is = is
as_wanted (Some one) wanted buffer answer is = inl is

-- an allocation fails only for a tune that is there
failed : {A B C : Type 0} (play : C → B) (block : Option C) (wanted : CopyResult A) (buffer : List A) → IsSome block
    → CopiesFound (option_map play block) wanted buffer (CODE_OUT_OF_MEMORY, 0, buffer)
failed play None wanted buffer is = absurd (false≢true is)
failed play (Some block) wanted buffer is = inr refl

-- a play that is not refused is copied, or an allocation failed
pub copied : {A : Type 0} (part : Tracks → List A) (text : Text) (number : ℕ) (tracks : Tracks) (buffer : List A) (answer : CopyResult A)
    → play_of text number ≡ Some tracks → play_size text number ≤ MOST_PLACES → CopiesOrFails (copy_answer (part tracks) buffer) buffer answer
    → CopiesFound (play_of text number) (play_answer part text number buffer) buffer answer
copied {A} part text number tracks buffer answer found few is =
    let within : nat_lt MOST_PLACES (play_size text number) ≡ false = grind (arith, nat_tests, few) in
    let same : play_answer part text number buffer ≡ copy_answer (part tracks) buffer =
    ap₂ (λ b play. cond b (CODE_TOO_LONG, 0, buffer) (lookup_answer (option_map part play) buffer)) within found in
    subst (λ (play : Option Tracks). CopiesFound play (play_answer part text number buffer) buffer answer) (sym found)
    (subst (λ (wanted : CopyResult A). CopiesOrFails wanted buffer answer) (sym same) is)

-- a refusal is what the call answers
pub refused : {A : Type 0} (part : Tracks → List A) (text : Text) (number : ℕ) (buffer : List A) (error : PlayError)
    → RefusesPlay text number error
    → CopiesFound (play_of text number) (play_answer part text number buffer) buffer (refusal_code error, 0, buffer)
refused part text number buffer NoSuchNumber none =
    as_wanted (play_of text number) (play_answer part text number buffer) buffer _
    (sym (ap (λ block. cond (nat_lt MOST_PLACES (size_of text block)) (CODE_TOO_LONG, 0, buffer)
    (lookup_answer (option_map part (option_map (block_play text) block)) buffer)) none))
refused part text number buffer TooLong many =
    let beyond : nat_lt MOST_PLACES (play_size text number) ≡ true = grind (arith, nat_tests, many) in
    as_wanted (play_of text number) (play_answer part text number buffer) buffer _
    (sym (ap (λ b. cond b (CODE_TOO_LONG, 0, buffer) (lookup_answer (option_map part (play_of text number)) buffer)) beyond))
refused part text number buffer OutOfMemory owned =
    failed (block_play text) (block_of text number) (play_answer part text number buffer) buffer owned
