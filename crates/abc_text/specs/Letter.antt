-- The letters of notes. ABC 2.1 section 4.1.
use Rattle.std.specs.Prelude.{◌≡◌, ◌⊎◌, ℕ, ◌||◌, ◌==◌, Option, Some, None, if◌then◌else◌}
use Rattle.abc_text.specs.declared.letter.Letter.{Letter}
use Rattle.abc_text.specs.declared.letter.Letter.TheVariants.{C, D, E, F, G, A, B}

-- The capital letter: the code of `A` is 65.
abbrev pub capital : Letter → ℕ
capital A = 65
capital B = 66
capital C = 67
capital D = 68
capital E = 69
capital F = 70
capital G = 71

-- The small letter: the code of `a` is 97.
abbrev pub small : Letter → ℕ
small A = 97
small B = 98
small C = 99
small D = 100
small E = 101
small F = 102
small G = 103

-- The number of semitones from the C below to the letter.
abbrev pub semitones : Letter → ℕ
semitones C = 0
semitones D = 2
semitones E = 4
semitones F = 5
semitones G = 7
semitones A = 9
semitones B = 11

-- A byte is a letter, capital or small.
abbrev pub IsLetter : ℕ → Letter → Type 0
IsLetter byte letter = (byte ≡ capital letter) ⊎ (byte ≡ small letter)

-- The letter that a byte spells, capital or small.
unfoldable pub letter_of : ℕ → Option Letter
letter_of b =
    if (b == capital C) || (b == small C) then Some C
    else (if (b == capital D) || (b == small D) then Some D
    else (if (b == capital E) || (b == small E) then Some E
    else (if (b == capital F) || (b == small F) then Some F
    else (if (b == capital G) || (b == small G) then Some G
    else (if (b == capital A) || (b == small A) then Some A
    else (if (b == capital B) || (b == small B) then Some B
    else None))))))
