-- The text read of a line has no carriage return at its end, and no comment.
use Rattle.std.proofs.Common.{◌≡◌, ℕ, true, false, List, [], ◌∷◌, ◌++◌, None, refl, sym, ap, ◌∙◌, inl, inr, ⊎_elim, arith}
use Rattle.std.specs.Prelude.{◌==◌, ◌&&◌, not}
use Rattle.std.proofs.lemmas.Bool.{cond-false, cond_both, eqb-true, eqb-false, and_parts, and_cases, not-true, not-false}
use Rattle.abc_text.specs.Cut.{HasNoByte}
use Rattle.abc_scan.specs.KnownAbsent.{place_of}
use Rattle.abc_scan.specs.Text.{before_comment, last_or, IsRead, CutsComments}
use Rattle.abc_scan.proofs.Closings.{lacks-drop, place_lacks}

-- a comment begins here
nothing_escaped : (before : ℕ) (front rest : List ℕ) → [] ≡ front ++ 37 ∷ rest → last_or before front ≡ 92
nothing_escaped before [] rest e = cc
nothing_escaped before (f ∷ fs) rest e = cc

comment_here : (before b : ℕ) (bs : List ℕ) → ((b == 37) && not (before == 92)) ≡ true → IsRead before (b ∷ bs) []
comment_here before b bs test =
    let parts = and_parts _ _ test in
    record {
      comment = b ∷ bs;
      spelling = refl;
      escaped = nothing_escaped before;
      begins = inr (bs, ap (λ x. x ∷ bs) (eqb-true b 37 parts.0), eqb-false before 92 (not-true _ parts.1));
    }

-- or not yet
escaped_later : (before b : ℕ) (read : List ℕ) → ((b == 37) && not (before == 92)) ≡ false → ((front rest : List ℕ) → read ≡ front ++ 37 ∷ rest → last_or b front ≡ 92) → (front rest : List ℕ)
    → b ∷ read ≡ front ++ 37 ∷ rest → last_or before front ≡ 92
escaped_later before b read test later [] rest e =
    let percent : b ≡ 37 = cc in
    ⊎_elim (λ other. absurd (eqb-false b 37 other percent)) (λ slash. eqb-true before 92 (not-false _ slash)) (and_cases _ _ test)
escaped_later before b read test later (f ∷ fs) rest e =
    let same : b ≡ f = cc in
    let following : read ≡ fs ++ 37 ∷ rest = cc in
    sym (ap (λ x. last_or x fs) same) ∙ later fs rest following

comment_later : (before b : ℕ) (bs read : List ℕ) → ((b == 37) && not (before == 92)) ≡ false → IsRead b bs read → IsRead before (b ∷ bs) (b ∷ read)
comment_later before b bs read test later = record {
  comment = later.comment;
  spelling = ap (λ l. b ∷ l) later.spelling;
  escaped = escaped_later before b read test later.escaped;
  begins = later.begins;
}

reads : (before : ℕ) (text : List ℕ) → IsRead before text (before_comment before text)
reads before [] = record { comment = []; spelling = refl; escaped = nothing_escaped before; begins = inl refl }
reads before (b ∷ bs) = cond_both ((b == 37) && not (before == 92)) [] (b ∷ before_comment b bs) (IsRead before (b ∷ bs)) (comment_here before b bs)
    (λ test. comment_later before b bs (before_comment b bs) test (reads b bs))

pub cuts_comments : CutsComments
cuts_comments text = reads 32 text

-- a text without `%` has no comment
lacks-comment : (before : ℕ) (text : List ℕ) → HasNoByte 37 text → before_comment before text ≡ text
lacks-comment before [] lacks = refl
lacks-comment before (b ∷ bs) lacks =
    cond-false ((b == 37) && not (before == 92)) [] (b ∷ before_comment b bs) (ap (λ t. t && not (before == 92)) (not-true (b == 37) (lacks 0 0 (omega arith))))
    ∙ ap (λ l. b ∷ l) (lacks-comment b bs (lacks-drop 1 37 (b ∷ bs) lacks))

-- and so has a text in which no `%` is found
pub before_comment_none : (before : ℕ) (text : List ℕ) → None ≡ place_of 37 text → before_comment before text ≡ text
before_comment_none before text none = lacks-comment before text (place_lacks 37 text None none refl)
