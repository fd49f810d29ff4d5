-- Reading a variable-length quantity undoes its text, and finds nothing else.
use Rattle.std.proofs.Common.{◌≡◌, ℕ, ◌+◌, ◌*◌, ◌/◌, ◌%◌, ◌^◌, ◌<◌, ◌≤◌, ◌↔◌, inl, inr, List, [], ◌∷◌, ◌++◌, length, get_or, Result, Some, Ok, Err, arith, refl, sym, ap, subst, ◌∙◌}
use Rattle.std.proofs.lemmas.List.Elements.{All-nil, All-cons}
use Rattle.smf_bytes.specs.declared.number.NumberFault.{NumberFault}
use Rattle.smf_bytes.specs.declared.number.NumberFault.TheVariants.{Padded, TooLong, Truncated}
use Rattle.std.proofs.lemmas.Bool.Decides.{nat_tests}
use Rattle.std.proofs.lemmas.Bool.{cases_eq, cases_lt}
use Rattle.std.proofs.lemmas.List.{append_cancel_left, append-nil}
use Rattle.std.specs.List.{All}
use Rattle.smf_bytes.specs.Number.{number_text, read_result, StartsWithNumber, IsPadded, IsTooLong, IsTruncated}

text_of_1 : (n : ℕ) → n / 128 ≡ 0 → number_text n ≡ n % 128 ∷ []
unfolding number_text
text_of_1 n h = grind (arith, nat_tests)

text_of_2 : (n : ℕ) → (n / 128 ≡ 0 → ⊥) → n / 128 / 128 ≡ 0 → number_text n ≡ (128 + n / 128 % 128) ∷ n % 128 ∷ []
unfolding number_text
text_of_2 n g h = grind (arith, nat_tests)

text_of_3 : (n : ℕ) → (n / 128 / 128 ≡ 0 → ⊥) → n / 128 / 128 / 128 ≡ 0 → number_text n ≡ (128 + n / 128 / 128 % 128) ∷ (128 + n / 128 % 128) ∷ n % 128 ∷ []
unfolding number_text
text_of_3 n g h = grind (arith, nat_tests)

text_of_4 : (n : ℕ) → (n / 128 / 128 / 128 ≡ 0 → ⊥) → number_text n ≡ (128 + n / 128 / 128 / 128 % 128) ∷ (128 + n / 128 / 128 % 128) ∷ (128 + n / 128 % 128) ∷ n % 128 ∷ []
unfolding number_text
text_of_4 n g = grind (arith, nat_tests)

read_1 : (n : ℕ) (rest : List ℕ) → n < 128 → read_result (n ∷ rest) ≡ Ok (n, 1)
unfolding read_result
read_1 n rest h = grind (arith, nat_tests)

read_2 : (a b : ℕ) (rest : List ℕ) → 128 < a → b < 128 → read_result (a ∷ b ∷ rest) ≡ Ok (a % 128 * 128 + b, 2)
unfolding read_result
read_2 a b rest g h = grind (arith, nat_tests)

read_3 : (a b c : ℕ) (rest : List ℕ) → 128 < a → 128 ≤ b → c < 128 → read_result (a ∷ b ∷ c ∷ rest) ≡ Ok ((a % 128 * 128 + b % 128) * 128 + c, 3)
unfolding read_result
read_3 a b c rest f g h = grind (arith, nat_tests)

read_4 : (a b c d : ℕ) (rest : List ℕ) → 128 < a → 128 ≤ b → 128 ≤ c → d < 128 → read_result (a ∷ b ∷ c ∷ d ∷ rest) ≡ Ok (((a % 128 * 128 + b % 128) * 128 + c % 128) * 128 + d, 4)
unfolding read_result
read_4 a b c d rest e f g h = grind (arith, nat_tests)

-- the number is read from its text, whatever follows
reading-text : (n : ℕ) (rest : List ℕ) → n < 2 ^ 28 → read_result (number_text n ++ rest) ≡ Ok (n, length (number_text n))
reading-text n rest h =
    elim (cases_eq (n / 128) 0) [
      | inl one ↦ rw (text_of_1 n one, read_1 (n % 128) rest (omega arith)) (ap (λ k. Ok (k, 1)) (omega arith))
      | inr more ↦ elim (cases_eq (n / 128 / 128) 0) [
        | inl two ↦ rw (text_of_2 n more two, read_2 (128 + n / 128 % 128) (n % 128) rest (omega arith) (omega arith)) (ap (λ k. Ok (k, 2)) (omega arith))
        | inr more' ↦ elim (cases_eq (n / 128 / 128 / 128) 0) [
          | inl three ↦ rw (
            text_of_3 n more' three,
            read_3 (128 + n / 128 / 128 % 128) (128 + n / 128 % 128) (n % 128) rest
                (omega arith) (omega arith) (omega arith),
          ) (ap (λ k. Ok (k, 3)) (omega arith))
          | inr four ↦ rw (
            text_of_4 n four,
            read_4 (128 + n / 128 / 128 / 128 % 128) (128 + n / 128 / 128 % 128)
                (128 + n / 128 % 128) (n % 128) rest (omega arith) (omega arith) (omega arith) (omega arith),
          ) (ap (λ k. Ok (k, 4)) (omega arith))
        ]
      ]
    ]

same_number : (m n : ℕ) (xs ys : List ℕ) → m < 2 ^ 28 → n < 2 ^ 28 → number_text m ++ xs ≡ number_text n ++ ys → m ≡ n
same_number m n xs ys g h e =
    let left = reading-text m xs g in
    let right = reading-text n ys h in
    let alike : read_result (number_text m ++ xs) ≡ read_result (number_text n ++ ys) = ap read_result e in
    let pair : (m, length (number_text m)) ≡ (n, length (number_text n)) = cc in
    ap (λ (p : ℕ × ℕ). p.0) pair

pub read_back : (m n : ℕ) (xs ys : List ℕ) → m < 2 ^ 28 → n < 2 ^ 28 → number_text m ++ xs ≡ number_text n ++ ys → (m ≡ n) × (xs ≡ ys)
read_back m n xs ys g h e =
    let same : m ≡ n = same_number m n xs ys g h e in
    (same, append_cancel_left (number_text n) xs ys (ap (λ k. number_text k ++ xs) (sym same) ∙ e))

pub not_a_front : (m n : ℕ) (rest : List ℕ) → m < 2 ^ 28 → n < 2 ^ 28 → number_text m ++ rest ≡ number_text n → m ≡ n
not_a_front m n rest g h e = same_number m n rest [] g h (e ∙ sym (append-nil (number_text n)))

-- what each result of reading means for the bytes
abbrev pub Means : List ℕ → Result (ℕ × ℕ) NumberFault → Type 0
Means bytes (Ok v) = StartsWithNumber bytes v.0 v.1
Means bytes (Err Padded) = IsPadded bytes
Means bytes (Err TooLong) = IsTooLong bytes
Means bytes (Err Truncated) = IsTruncated bytes

means_by : (bytes : List ℕ) (r : Result (ℕ × ℕ) NumberFault) → read_result bytes ≡ r → Means bytes r → Means bytes (read_result bytes)
means_by bytes r e m = subst (Means bytes) (sym e) m

is_padded : (a : ℕ) (rest : List ℕ) → a ≡ 128 → read_result (a ∷ rest) ≡ Err Padded
unfolding read_result
is_padded a rest h = grind (arith, nat_tests)

cut_1 : (a : ℕ) → 128 < a → read_result (a ∷ []) ≡ Err Truncated
unfolding read_result
cut_1 a g = grind (arith, nat_tests)

cut_2 : (a b : ℕ) → 128 < a → 128 ≤ b → read_result (a ∷ b ∷ []) ≡ Err Truncated
unfolding read_result
cut_2 a b f g = grind (arith, nat_tests)

cut_3 : (a b c : ℕ) → 128 < a → 128 ≤ b → 128 ≤ c → read_result (a ∷ b ∷ c ∷ []) ≡ Err Truncated
unfolding read_result
cut_3 a b c e f g = grind (arith, nat_tests)

long_4 : (a b c d : ℕ) (rest : List ℕ) → 128 < a → 128 ≤ b → 128 ≤ c → 128 ≤ d → read_result (a ∷ b ∷ c ∷ d ∷ rest) ≡ Err TooLong
unfolding read_result
long_4 a b c d rest e f g h = grind (arith, nat_tests)

unpadded : (a : ℕ) (rest : List ℕ) → 128 < a → ¬ IsPadded (a ∷ rest)
unpadded a rest h e =
    let same : a ≡ 128 = cc in
    omega arith

number_1 : (a : ℕ) (rest : List ℕ) → a < 128 → StartsWithNumber (a ∷ rest) a 1
number_1 a rest h =
    let text : number_text a ≡ a % 128 ∷ [] = text_of_1 a (omega arith) in
    let same : a % 128 ≡ a = omega arith in
    record { in_range = omega arith; rest = rest; spelled = rw (text, same); counted = rw text }

number_2 : (a b : ℕ) (rest : List ℕ) → 128 < a → a < 256 → b < 128 → StartsWithNumber (a ∷ b ∷ rest) (a % 128 * 128 + b) 2
number_2 a b rest e f g =
    let n = a % 128 * 128 + b in
    let high : n / 128 ≡ a % 128 = omega arith in
    let low : n % 128 ≡ b = omega arith in
    let text : number_text n ≡ (128 + n / 128 % 128) ∷ n % 128 ∷ [] = text_of_2 n (λ z. omega arith) (omega arith) in
    let same : 128 + n / 128 % 128 ≡ a = omega arith in
    record { in_range = omega arith; rest = rest; spelled = rw (text, same, low); counted = rw text }

number_3 : (a b c : ℕ) (rest : List ℕ) → 128 < a → a < 256 → 128 ≤ b → b < 256 → c < 128 → StartsWithNumber (a ∷ b ∷ c ∷ rest) ((a % 128 * 128 + b % 128) * 128 + c) 3
number_3 a b c rest e f g h i =
    let n = (a % 128 * 128 + b % 128) * 128 + c in
    let high : n / 128 / 128 ≡ a % 128 = omega arith in
    let middle : n / 128 % 128 ≡ b % 128 = omega arith in
    let low : n % 128 ≡ c = omega arith in
    let text : number_text n ≡ (128 + n / 128 / 128 % 128) ∷ (128 + n / 128 % 128) ∷ n % 128 ∷ [] = text_of_3 n (λ z. omega arith) (omega arith) in
    let first : 128 + n / 128 / 128 % 128 ≡ a = omega arith in
    let second : 128 + n / 128 % 128 ≡ b = omega arith in
    record { in_range = omega arith; rest = rest; spelled = rw (text, first, second, low); counted = rw text }

number_4 : (a b c d : ℕ) (rest : List ℕ) → 128 < a → a < 256 → 128 ≤ b → b < 256 → 128 ≤ c → c < 256 → d < 128
    → StartsWithNumber (a ∷ b ∷ c ∷ d ∷ rest) (((a % 128 * 128 + b % 128) * 128 + c % 128) * 128 + d) 4
number_4 a b c d rest e f g h i j k =
    let n = ((a % 128 * 128 + b % 128) * 128 + c % 128) * 128 + d in
    let high : n / 128 / 128 / 128 ≡ a % 128 = omega arith in
    let upper : n / 128 / 128 % 128 ≡ b % 128 = omega arith in
    let middle : n / 128 % 128 ≡ c % 128 = omega arith in
    let low : n % 128 ≡ d = omega arith in
    let text : number_text n ≡ (128 + n / 128 / 128 / 128 % 128) ∷ (128 + n / 128 / 128 % 128) ∷ (128 + n / 128 % 128) ∷ n % 128 ∷ [] = text_of_4 n (λ z. omega arith) in
    let first : 128 + n / 128 / 128 / 128 % 128 ≡ a = omega arith in
    let second : 128 + n / 128 / 128 % 128 ≡ b = omega arith in
    let third : 128 + n / 128 % 128 ≡ c = omega arith in
    record { in_range = omega arith; rest = rest; spelled = rw (text, first, second, third, low); counted = rw text }

high_3 : (a b c : ℕ) → 128 ≤ a → 128 ≤ b → 128 ≤ c → All (λ byte. 128 ≤ byte) (a ∷ b ∷ c ∷ [])
high_3 a b c e f g =
    let high = λ (byte : ℕ). 128 ≤ byte in
    All-cons high a (b ∷ c ∷ []) e (All-cons high b (c ∷ []) f (All-cons high c [] g (All-nil high)))

sound_4 : (a b c : ℕ) (rest : List ℕ) → ((i : ℕ) → get_or (a ∷ b ∷ c ∷ rest) i 0 < 256) → 128 < a → 128 ≤ b → 128 ≤ c → Means (a ∷ b ∷ c ∷ rest) (read_result (a ∷ b ∷ c ∷ rest))
sound_4 a b c [] h e f g =
    means_by (a ∷ b ∷ c ∷ []) (Err Truncated) (cut_3 a b c e f g)
    (record { not_padded = unpadded a (b ∷ c ∷ []) e; short = omega arith; top_bits = high_3 a b c (omega arith) f g })
sound_4 a b c (d ∷ rest) h e f g =
    elim (cases_lt d 128) [
      | inl low ↦ means_by (a ∷ b ∷ c ∷ d ∷ rest) (Ok (((a % 128 * 128 + b % 128) * 128 + c % 128) * 128 + d, 4)) (read_4 a b c d rest e f g low)
          (number_4 a b c d rest e (h 0) f (h 1) g (h 2) low)
      | inr high ↦ means_by (a ∷ b ∷ c ∷ d ∷ rest) (Err TooLong) (long_4 a b c d rest e f g high)
          (record { not_padded = unpadded a (b ∷ c ∷ d ∷ rest) e; four = omega arith; top_bits = All-cons (λ byte. 128 ≤ byte) a (b ∷ c ∷ d ∷ []) (omega arith) (high_3 b c d f g high) })
    ]

sound_3 : (a b : ℕ) (rest : List ℕ) → ((i : ℕ) → get_or (a ∷ b ∷ rest) i 0 < 256) → 128 < a → 128 ≤ b → Means (a ∷ b ∷ rest) (read_result (a ∷ b ∷ rest))
sound_3 a b [] h e f =
    means_by (a ∷ b ∷ []) (Err Truncated) (cut_2 a b e f)
    (record {
      not_padded = unpadded a (b ∷ []) e;
      short = omega arith;
      top_bits = All-cons (λ byte. 128 ≤ byte) a (b ∷ []) (omega arith) (All-cons (λ byte. 128 ≤ byte) b [] f (All-nil (λ byte. 128 ≤ byte)));
    })
sound_3 a b (c ∷ rest) h e f =
    elim (cases_lt c 128) [
      | inl low ↦ means_by (a ∷ b ∷ c ∷ rest) (Ok ((a % 128 * 128 + b % 128) * 128 + c, 3)) (read_3 a b c rest e f low)
          (number_3 a b c rest e (h 0) f (h 1) low)
      | inr high ↦ sound_4 a b c rest h e f high
    ]

sound_2 : (a : ℕ) (rest : List ℕ) → ((i : ℕ) → get_or (a ∷ rest) i 0 < 256) → 128 < a → Means (a ∷ rest) (read_result (a ∷ rest))
sound_2 a [] h e =
    means_by (a ∷ []) (Err Truncated) (cut_1 a e)
    (record { not_padded = unpadded a [] e; short = omega arith; top_bits = All-cons (λ byte. 128 ≤ byte) a [] (omega arith) (All-nil (λ byte. 128 ≤ byte)) })
sound_2 a (b ∷ rest) h e =
    elim (cases_lt b 128) [
      | inl low ↦ means_by (a ∷ b ∷ rest) (Ok (a % 128 * 128 + b, 2)) (read_2 a b rest e low) (number_2 a b rest e (h 0) low)
      | inr high ↦ sound_3 a b rest h e high
    ]

sound_1 : (a : ℕ) (rest : List ℕ) → ((i : ℕ) → get_or (a ∷ rest) i 0 < 256) → (a ≡ 128 → ⊥) → Means (a ∷ rest) (read_result (a ∷ rest))
sound_1 a rest h ne =
    elim (cases_lt a 128) [
      | inl low ↦ means_by (a ∷ rest) (Ok (a, 1)) (read_1 a rest low) (number_1 a rest low)
      | inr high ↦ sound_2 a rest h (omega arith)
    ]

-- the result of reading is right, for bytes
sound : (bytes : List ℕ) → ((i : ℕ) → get_or bytes i 0 < 256) → Means bytes (read_result bytes)
unfolding read_result
sound [] h =
    means_by [] (Err Truncated) refl (record { not_padded = λ e. cc; short = omega arith; top_bits = All-nil (λ byte. 128 ≤ byte) })
sound (a ∷ rest) h =
    elim (cases_eq a 128) [
      | inl e ↦ means_by (a ∷ rest) (Err Padded) (is_padded a rest e) (ap Some e)
      | inr ne ↦ sound_1 a rest h ne
    ]

-- the results that follow from the text, or from a fault of the bytes
complete : (bytes : List ℕ) (n used : ℕ) → StartsWithNumber bytes n used → read_result bytes ≡ Ok (n, used)
complete bytes n used h =
    ap read_result h.spelled ∙ reading-text n h.rest h.in_range ∙ ap (λ k. Ok (n, k)) (sym h.counted)

is_padded_at : (bytes : List ℕ) → IsPadded bytes → read_result bytes ≡ Err Padded
is_padded_at [] h = cc
is_padded_at (a ∷ rest) h = is_padded a rest cc

past_128 : (a : ℕ) (rest : List ℕ) → ¬ IsPadded (a ∷ rest) → 128 ≤ a → 128 < a
past_128 a rest n h = elim (cases_eq a 128) [ inl e ↦ absurd (n (ap Some e)) | inr ne ↦ omega arith ]

is_too_long : (bytes : List ℕ) → IsTooLong bytes → read_result bytes ≡ Err TooLong
is_too_long [] h = absurd (omega (arith, h.four))
is_too_long (a ∷ []) h = absurd (omega (arith, h.four))
is_too_long (a ∷ b ∷ []) h = absurd (omega (arith, h.four))
is_too_long (a ∷ b ∷ c ∷ []) h = absurd (omega (arith, h.four))
is_too_long (a ∷ b ∷ c ∷ d ∷ rest) h =
    long_4 a b c d rest (past_128 a (b ∷ c ∷ d ∷ rest) h.not_padded (h.top_bits 0 0 (omega arith))) (h.top_bits 1 0 (omega arith)) (h.top_bits 2 0 (omega arith)) (h.top_bits 3 0 (omega arith))

is_truncated : (bytes : List ℕ) → IsTruncated bytes → read_result bytes ≡ Err Truncated
unfolding read_result
is_truncated [] h = refl
is_truncated (a ∷ []) h = cut_1 a (past_128 a [] h.not_padded (h.top_bits 0 0 (omega arith)))
is_truncated (a ∷ b ∷ []) h = cut_2 a b (past_128 a (b ∷ []) h.not_padded (h.top_bits 0 0 (omega arith))) (h.top_bits 1 0 (omega arith))
is_truncated (a ∷ b ∷ c ∷ []) h = cut_3 a b c (past_128 a (b ∷ c ∷ []) h.not_padded (h.top_bits 0 0 (omega arith))) (h.top_bits 1 0 (omega arith)) (h.top_bits 2 0 (omega arith))
is_truncated (a ∷ b ∷ c ∷ d ∷ rest) h = absurd (omega (arith, h.short))

meant : (bytes : List ℕ) (r : Result (ℕ × ℕ) NumberFault) → ((i : ℕ) → get_or bytes i 0 < 256) → r ≡ read_result bytes → Means bytes r
meant bytes r h e = subst (Means bytes) (sym e) (sound bytes h)

-- reading has each result exactly if the bytes are so
pub record Answers (bytes : List ℕ) (r : Result (ℕ × ℕ) NumberFault) : Type 0 where
  pub ok : (n used : ℕ) → (r ≡ Ok (n, used)) ↔ StartsWithNumber bytes n used
  pub padded : (r ≡ Err Padded) ↔ IsPadded bytes
  pub too_long : (r ≡ Err TooLong) ↔ IsTooLong bytes
  pub truncated : (r ≡ Err Truncated) ↔ IsTruncated bytes

pub answers : (bytes : List ℕ) (r : Result (ℕ × ℕ) NumberFault) → ((i : ℕ) → get_or bytes i 0 < 256) → r ≡ read_result bytes → Answers bytes r
answers bytes r h e =
    let means = meant bytes r h e in
    record {
      ok = λ n used. (λ is. subst (Means bytes) is means, λ starts. e ∙ complete bytes n used starts);
      padded = (λ is. subst (Means bytes) is means, λ it. e ∙ is_padded_at bytes it);
      too_long = (λ is. subst (Means bytes) is means, λ it. e ∙ is_too_long bytes it);
      truncated = (λ is. subst (Means bytes) is means, λ it. e ∙ is_truncated bytes it);
    }
