-- The grammar of a tempo, the value of a field Q:. ABC 2.1 section 3.1.8.
use Rattle.std.specs.Prelude.{◌≡◌, ◌≤◌, ◌⊎◌, ℕ, zero, suc, ◌+◌, ◌*◌, ◌^◌, ◌==◌, not, List, [], ◌∷◌, ◌++◌, length}
use Rattle.std.specs.List.{AllPass}
use Rattle.std.specs.Int.{◌∣◌}
use Rattle.abc_time.specs.declared.ratio.Ratio.{Ratio}
use Rattle.abc_fields.specs.declared.tempo.Tempo.{Tempo}
use Rattle.abc_fields.specs.declared.tempo.Tempo.TheVariants.{Unset, Units, Beat}
use Rattle.abc_text.specs.Blank.{AreBlanks}
use Rattle.abc_text.specs.Number.{IsNumber}
use Rattle.abc_text.specs.Byte.{quote, slash, equals_sign}

-- A fraction of a whole note, as `3/8`, counted in 512ths. The limits are not in ABC 2.1.
pub record IsFraction (text : List ℕ) (part : ℕ) : Type 0 where
  pub above : List ℕ
  pub below : List ℕ
  pub num : ℕ
  pub power : ℕ
  pub spelling : text ≡ above ++ slash ∷ below
  pub above_is : IsNumber above num
  pub below_is : IsNumber below (2 ^ power)
  pub num_least : 1 ≤ num
  pub num_most : num ≤ 512
  pub power_most : power ≤ 9
  pub value : part * 2 ^ power ≡ num * 512

-- One fraction, which blanks may follow.
pub record IsLastFraction (text : List ℕ) (sum : ℕ) : Type 0 where
  pub word : List ℕ
  pub gap : List ℕ
  pub spelling : text ≡ word ++ gap
  pub word_is : IsFraction word sum
  pub gap_is : AreBlanks gap

-- A fraction, one or more blanks, and the other fractions, whose sum `rest` gives.
pub record IsFirstFraction (IsRest : List ℕ → ℕ → Type 0) (text : List ℕ) (sum : ℕ) : Type 0 where
  pub word : List ℕ
  pub gap : List ℕ
  pub rest : List ℕ
  pub part : ℕ
  pub rest_sum : ℕ
  pub spelling : text ≡ word ++ (gap ++ rest)
  pub word_is : IsFraction word part
  pub gap_is : AreBlanks gap
  pub gap_some : 1 ≤ length gap
  pub rest_is : IsRest rest rest_sum
  pub total : sum ≡ part + rest_sum

-- At least one and at most `most` fractions, separated by blanks, which are added.
abbrev pub IsSum : ℕ → List ℕ → ℕ → Type 0
IsSum zero text sum = ⊥
IsSum (suc most) text sum = IsLastFraction text sum ⊎ IsFirstFraction (IsSum most) text sum

-- No number but 1 divides both parts.
abbrev pub IsLowest : Ratio → Type 0
IsLowest r = (c : ℕ) → c ∣ r.num → c ∣ r.den → c ≡ 1

-- The beat, `=` with optional blanks around it, and the number of beats per minute. The bound of 16 fractions is not in
-- ABC 2.1.
pub record IsBeats (text : List ℕ) (beat : Ratio) (n : ℕ) : Type 0 where
  pub front : List ℕ
  pub gap : List ℕ
  pub number : List ℕ
  pub sum : ℕ
  pub spelling : text ≡ front ++ equals_sign ∷ (gap ++ number)
  pub front_is : IsSum 16 front sum
  pub gap_is : AreBlanks gap
  pub number_is : IsNumber number n
  pub number_least : 1 ≤ n
  pub value : beat.num * 512 ≡ sum * beat.den
  pub lowest_is : IsLowest beat

-- A tempo without a text: beats, or the number of unit notes per minute. The latter is not in ABC 2.1.
abbrev pub IsBareTempo : List ℕ → Tempo → Type 0
IsBareTempo text Unset = ⊥
IsBareTempo text (Units n) = IsNumber text n × (1 ≤ n)
IsBareTempo text (Beat beat n) = IsBeats text beat n

-- A text in quotes.
pub record IsQuoted (text : List ℕ) : Type 0 where
  pub inside : List ℕ
  pub spelling : text ≡ quote ∷ (inside ++ quote ∷ [])
  pub no_quote : AllPass (λ b. not (b == quote)) inside

-- A quoted text, optional blanks, and a tempo.
pub record IsAfterText (text : List ℕ) (m : Tempo) : Type 0 where
  pub quoted : List ℕ
  pub gap : List ℕ
  pub tempo : List ℕ
  pub spelling : text ≡ quoted ++ (gap ++ tempo)
  pub quoted_is : IsQuoted quoted
  pub gap_is : AreBlanks gap
  pub tempo_is : IsBareTempo tempo m

-- A tempo, optional blanks, and a quoted text.
pub record IsBeforeText (text : List ℕ) (m : Tempo) : Type 0 where
  pub tempo : List ℕ
  pub gap : List ℕ
  pub quoted : List ℕ
  pub spelling : text ≡ tempo ++ (gap ++ quoted)
  pub tempo_is : IsBareTempo tempo m
  pub gap_is : AreBlanks gap
  pub quoted_is : IsQuoted quoted

-- The value of a tempo field: nothing if it is empty or only a text; else a tempo, with a text before or after it or
-- none. The empty field is not in ABC 2.1.
pub data IsTempo (text : List ℕ) (m : Tempo) : Type 0 where
  empty : text ≡ [] → m ≡ Unset → IsTempo text m
  text_alone : IsQuoted text → m ≡ Unset → IsTempo text m
  without_text : IsBareTempo text m → IsTempo text m
  after_text : IsAfterText text m → IsTempo text m
  before_text : IsBeforeText text m → IsTempo text m
