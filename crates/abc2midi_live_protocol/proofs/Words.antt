-- Laws of command lines: numbers, and words after one another.
use Rattle.std.proofs.Common.{◌≡◌, ℕ, ◌<◌, ◌≤◌, Bool, true, false, cond, ◌==◌, List, [], ◌∷◌, length, Option, Some, None, refl}
use Rattle.std.proofs.Common.{sym, ap, ⊎_elim, ◌∙◌, subst, arith, rules, option_map, ◌++◌, append_assoc, append-nil}
use Rattle.std.proofs.Common.{length-append, All}
use Rattle.std.specs.Option.{option_map_or}
use Rattle.std.specs.Prelude.{codes}
use Rattle.std.proofs.lemmas.Str.{IsUtf8-from_ascii}
use Rattle.std.specs.Str.{IsUtf8, bytes_eq}
use Rattle.abc_text.specs.LineEnd.{without_return}
use Rattle.std.proofs.lemmas.List.Splits.{slice_split_at, slice_split_none}
use Rattle.std.proofs.lemmas.Bool.Decides.{nat_tests}
use Rattle.std.proofs.lemmas.Bool.{cases_Bool, not-true}
use Rattle.std.proofs.lemmas.Slice.Eq.{bytes_eq-Decides}
use Rattle.abc_lines.specs.declared.limits.TheConstants.{LONGEST_LINE}
use Rattle.abc_text.specs.Cut.{HasNoByte, IsCut}
use Rattle.abc_text.specs.Number.{number_of}
use Rattle.abc2midi_live_protocol.specs.Command.{numbers_of, number_and_rest, with_numbers, words_of, words_after, command_named}
use Rattle.abc2midi_live_protocol.specs.Command.{command_of_words, command_of, IsUseless, insertion, replacement, deletion, hex_dump}
use Rattle.abc2midi_live_protocol.specs.Command.{without_numbers}
use Rattle.abc2midi_live_protocol.specs.declared.command.Command.TheVariants.{Faults, Titles, Build, Quit, Unknown}

-- A text without the byte is clean.
clean : (byte : ℕ) (text : List ℕ) → HasNoByte byte text → All (λ b. (b == byte) ≡ false) text
clean byte text has = λ k d below. not-true _ (has k d below)

-- the words of a text with a space
pub words_of-cut : (text front rest : List ℕ) → IsCut 32 text front rest → words_of text ≡ front ∷ words_of rest
unfolding words_of
words_of-cut text front rest is = ap words_of is.spelling ∙ slice_split_at (λ b. b == 32) front 32 rest (clean 32 front is.first) refl

-- the word of a text without a space
pub words_of-alone : (text : List ℕ) → HasNoByte 32 text → words_of text ≡ text ∷ []
unfolding words_of
words_of-alone text has = slice_split_none (λ b. b == 32) text (clean 32 text has)

-- the command of a line of allowed length
pub command_of_words-short : (line : List ℕ) → length line ≤ LONGEST_LINE → command_of_words (words_of (without_return line)) ≡ command_of line
unfolding command_of
command_of_words-short line h = grind (arith, nat_tests)

pub command_of-long : (line : List ℕ) → LONGEST_LINE < length line → Unknown ≡ command_of line
unfolding command_of
command_of-long line h = grind (arith, nat_tests)

-- the numbers so far, and those that the words after them spell
pub numbers_after : List ℕ → List (List ℕ) → Option (List ℕ)
numbers_after numbers words = option_map (λ more. numbers ++ more) (numbers_of words)

front : (words : List (List ℕ)) (word : List ℕ) (rest : List (List ℕ)) (n : Option ℕ) → words ≡ word ∷ rest → n ≡ number_of word → numbers_of words ≡ number_and_rest n (numbers_of rest)
unfolding numbers_of
front words word rest n e f = ap numbers_of e ∙ ap (λ o. number_and_rest o (numbers_of rest)) (sym f)

none_mapped : (numbers : List ℕ) → option_map (λ more. numbers ++ more) None ≡ None
none_mapped numbers = refl

moved : (numbers : List ℕ) (n : ℕ) (more : Option (List ℕ)) → option_map (λ more. numbers ++ more) (number_and_rest (Some n) more) ≡ option_map (λ more. (numbers ++ n ∷ []) ++ more) more
moved numbers n None = refl
moved numbers n (Some more) = ap Some (sym (append_assoc numbers (n ∷ []) more))

-- at first there are none
pub numbers_after-first : (words : List (List ℕ)) → numbers_after [] words ≡ numbers_of words
unfolding numbers_after
numbers_after-first words = go (numbers_of words) where
  go : (o : Option (List ℕ)) → option_map (λ more. [] ++ more) o ≡ o
  go None = refl
  go (Some more) = refl

-- a word that spells a number
pub numbers_after-more : (numbers : List ℕ) (words : List (List ℕ)) (word : List ℕ) (rest : List (List ℕ)) (n : ℕ)
    → words ≡ word ∷ rest → Some n ≡ number_of word → numbers_after (numbers ++ n ∷ []) rest ≡ numbers_after numbers words
unfolding numbers_after
numbers_after-more numbers words word rest n e f = sym (ap (option_map (λ more. numbers ++ more)) (front words word rest (Some n) e f) ∙ moved numbers n (numbers_of rest))

-- a word that spells none
pub numbers_after-other : (numbers : List ℕ) (words : List (List ℕ)) (word : List ℕ) (rest : List (List ℕ)) → words ≡ word ∷ rest → None ≡ number_of word → IsUseless (numbers_after numbers words)
unfolding numbers_after
numbers_after-other numbers words word rest e f = subst IsUseless (sym (ap (option_map (λ more. numbers ++ more)) (front words word rest None e f))) tt

longer : (numbers : List ℕ) (n : ℕ) (more : Option (List ℕ)) → 3 ≤ length numbers → IsUseless (option_map (λ more. numbers ++ more) (number_and_rest (Some n) more))
longer numbers n None full = tt
longer numbers n (Some more) full = let e = length-append numbers (n ∷ more) in omega (arith, e)

-- a fourth number
pub numbers_after-full : (numbers : List ℕ) (words : List (List ℕ)) (word : List ℕ) (rest : List (List ℕ)) (n : ℕ)
    → words ≡ word ∷ rest → Some n ≡ number_of word → 3 ≤ length numbers → IsUseless (numbers_after numbers words)
unfolding numbers_after
numbers_after-full numbers words word rest n e f full = subst IsUseless
    (sym (ap (option_map (λ more. numbers ++ more)) (front words word rest (Some n) e f))) (longer numbers n (numbers_of rest) full)

-- no word is left
pub numbers_after-none : (numbers : List ℕ) (words : List (List ℕ)) → words ≡ [] → numbers_after numbers words ≡ Some numbers
unfolding numbers_after numbers_of
numbers_after-none numbers words e = ap (λ w. option_map (λ more. numbers ++ more) (numbers_of w)) e ∙ ap Some (append-nil numbers)

-- a literal is text, so bytes that are no text are none
other_name : (name literal : List ℕ) → (IsUtf8 name → ⊥) → IsUtf8 literal → bytes_eq name literal ≡ false
other_name name literal h text = ⊎_elim
    (λ same. absurd (h (subst IsUtf8 (sym ((bytes_eq-Decides name literal).0 same)) text)))
    (λ other. other)
    (cases_Bool (bytes_eq name literal))

-- a name that is no text
pub command_named-other : (name numbers : List ℕ) → (IsUtf8 name → ⊥) → Unknown ≡ command_named name numbers
unfolding command_named
command_named-other name numbers h =
    rw (
      other_name name (codes "insert") h (IsUtf8-from_ascii (codes "insert") (search rules)),
      other_name name (codes "replace") h (IsUtf8-from_ascii (codes "replace") (search rules)),
      other_name name (codes "delete") h (IsUtf8-from_ascii (codes "delete") (search rules)),
      other_name name (codes "faults") h (IsUtf8-from_ascii (codes "faults") (search rules)),
      other_name name (codes "titles") h (IsUtf8-from_ascii (codes "titles") (search rules)),
      other_name name (codes "hex") h (IsUtf8-from_ascii (codes "hex") (search rules)),
      other_name name (codes "build") h (IsUtf8-from_ascii (codes "build") (search rules)),
      other_name name (codes "quit") h (IsUtf8-from_ascii (codes "quit") (search rules)),
    ) refl

unused : (b c d e f g h k : Bool) (x y z w : ℕ) (more : List ℕ)
    → cond b insertion (cond c replacement (cond d deletion (cond e (without_numbers Faults)
    (cond f (without_numbers Titles) (cond g hex_dump (cond h (without_numbers Build) (cond k (without_numbers Quit) (λ numbers. Unknown)))))))) (x ∷ y ∷ z ∷ w ∷ more) ≡ Unknown
unfolding insertion replacement deletion hex_dump without_numbers
unused true c d e f g h k x y z w more = refl
unused false true d e f g h k x y z w more = refl
unused false false true e f g h k x y z w more = refl
unused false false false true f g h k x y z w more = refl
unused false false false false true g h k x y z w more = refl
unused false false false false false true h k x y z w more = refl
unused false false false false false false true k x y z w more = refl
unused false false false false false false false true x y z w more = refl
unused false false false false false false false false x y z w more = refl

-- no command takes more than three numbers
many_named : (name numbers : List ℕ) → 3 < length numbers → command_named name numbers ≡ Unknown
unfolding command_named
many_named name [] h = absurd (omega arith)
many_named name (x ∷ []) h = absurd (omega arith)
many_named name (x ∷ y ∷ []) h = absurd (omega arith)
many_named name (x ∷ y ∷ z ∷ []) h = absurd (omega arith)
many_named name (x ∷ y ∷ z ∷ w ∷ more) h = unused (bytes_eq name (codes "insert")) (bytes_eq name (codes "replace"))
    (bytes_eq name (codes "delete")) (bytes_eq name (codes "faults")) (bytes_eq name (codes "titles")) (bytes_eq name (codes "hex"))
    (bytes_eq name (codes "build")) (bytes_eq name (codes "quit")) x y z w more

useless_named : (name : List ℕ) (numbers : Option (List ℕ)) → IsUseless numbers → option_map_or (command_named name) numbers Unknown ≡ Unknown
useless_named name None h = refl
useless_named name (Some numbers) h = many_named name numbers h

-- a name and words that no command takes
pub command_of_words-useless : (words : List (List ℕ)) (name : List ℕ) (rest : List (List ℕ)) → words ≡ name ∷ rest → IsUseless (numbers_of rest) → Unknown ≡ command_of_words words
unfolding command_of_words with_numbers
command_of_words-useless words name rest e h = sym (ap command_of_words e ∙ useless_named name (numbers_of rest) h)

-- a name and numbers
pub command_of_words-cut : (words : List (List ℕ)) (name : List ℕ) (rest : List (List ℕ)) (numbers : List ℕ) → words ≡ name ∷ rest
    → numbers_of rest ≡ Some numbers → command_named name numbers ≡ command_of_words words
unfolding command_of_words with_numbers
command_of_words-cut words name rest numbers e f = sym (ap command_of_words e ∙ ap (λ o. option_map_or (command_named name) o Unknown) f)
