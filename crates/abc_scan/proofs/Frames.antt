-- The frame of a chord at the front of a text is the longest one that the grammar has there.
use Rattle.std.proofs.Common.{◌≡◌, ℕ, suc, ◌+◌, false, Some, List, [], ◌∷◌, ◌++◌, length, take, drop, refl, sym, ap, ◌∙◌, arith, append_assoc, length-append, length-take-le, take-append-drop, subst}
use Rattle.std.specs.Prelude.{IfSome, ◌==◌, not}
use Rattle.std.proofs.Math.Seq.{take-append-add}
use Rattle.std.proofs.lemmas.Bool.{cond-true, cond_both, eqb-true, and_from, and_right, not-true, not_from_false}
use Rattle.std.proofs.lemmas.List.Sums.{prefix_len-le-length}
use Rattle.std.specs.List.{AllPass}
use Rattle.abc_scan.specs.declared.frame.Frame.{Frame}
use Rattle.abc_scan.specs.Byte.{opening_bracket, closing_bracket}
use Rattle.abc_scan.specs.Field.{begins_field}
use Rattle.abc_scan.specs.Frame.{is_inside, IsFrame, closed_frame, inside_size, frame_at}
use Rattle.abc_scan.specs.Length.{length_at, length_size}
use Rattle.abc_text.proofs.Fronts.{front_passes, front_exact, front_none, drop_exact}
use Rattle.abc_scan.proofs.Lengths.{length_longest, length_sound, length_size-le}
use Rattle.abc_scan.proofs.Readings.{Finds, IsSpelled, byte_and}

-- the text after the inside makes no field of it
begins_inside : (inside rest : List ℕ) → begins_field (inside ++ closing_bracket ∷ rest) ≡ begins_field inside
begins_inside [] [] = refl
begins_inside [] (x ∷ xs) = refl
begins_inside (letter ∷ []) rest = and_right _ _ refl
begins_inside (letter ∷ sign ∷ more) rest = refl

frame_read : (inside following : List ℕ) → begins_field inside ≡ false → inside_size (inside ++ closing_bracket ∷ following) ≡ length inside
    → frame_at (opening_bracket ∷ (inside ++ closing_bracket ∷ following)) ≡ Some (record { inside = length inside; length = length_at following }, length inside + 2 + length_size following)
unfolding frame_at
frame_read inside following no_field size =
    let rest = inside ++ closing_bracket ∷ following in
    let left : drop (inside_size rest) rest ≡ closing_bracket ∷ following = drop_exact (inside_size rest) inside (closing_bracket ∷ following) size in
    cond-true _ _ _ (and_from _ _ refl (not_from_false _ (begins_inside inside following ∙ no_field)))
    ∙ (λ i. closed_frame (size i) (left i))

pub frame_longest : (front rest : List ℕ) (frame : Frame) → IsFrame front frame → Finds (frame_at (front ++ rest)) front frame
frame_longest front rest frame is =
    let following = is.written ++ rest in
    let parts = ap (λ l. l ++ rest) is.spelling ∙ ap (λ l. opening_bracket ∷ l) (append_assoc is.inside (closing_bracket ∷ is.written) rest) in
    let size : inside_size (is.inside ++ closing_bracket ∷ following) ≡ length is.inside =
    front_exact is_inside is.inside (closing_bracket ∷ following) is.inside_is (front_none is_inside closing_bracket following refl) in
    let long : length front ≡ suc (length is.inside + suc (length is.written)) = ap length is.spelling ∙ ap suc (length-append is.inside (closing_bracket ∷ is.written)) in
    let covers = length_longest is.written rest frame.length is.length_is in
    record {
      found = record { inside = length is.inside; length = length_at following };
      size = length is.inside + 2 + length_size following;
      is_read = ap frame_at parts ∙ frame_read is.inside following is.no_field size;
      long = omega (arith, long, covers.0);
      same = λ e.
          let value = covers.1 (omega (arith, long, e)) in
          λ i. record { inside = is.size_is i; length = value i };
    }

-- the frame read is one of the grammar
frame_here : (inside following : List ℕ) → AllPass is_inside inside → begins_field inside ≡ false
    → IsSpelled IsFrame (opening_bracket ∷ (inside ++ closing_bracket ∷ following)) (record { inside = length inside; length = length_at following }, length inside + 2 + length_size following)
frame_here inside following inside_is no_field =
    let total = length-append inside (closing_bracket ∷ following) in
    let written = length_size-le following in
    let sum : length inside + 2 + length_size following ≡ suc (length inside + suc (length_size following)) = omega arith in (
      record { some = omega arith; inside = omega (arith, total, written) },
      record {
        inside = inside;
        written = take (length_size following) following;
        spelling = (λ i. take (sum i) (opening_bracket ∷ (inside ++ closing_bracket ∷ following)))
            ∙ ap (λ l. opening_bracket ∷ l) (take-append-add inside (closing_bracket ∷ following) (suc (length_size following)));
        inside_is = inside_is;
        no_field = no_field;
        size_is = refl;
        length_is = length_sound following;
      },
    )

frame_closed : (inside following : List ℕ) → AllPass is_inside inside → begins_field (inside ++ following) ≡ false
    → IfSome (closed_frame (length inside) following) (IsSpelled IsFrame (opening_bracket ∷ (inside ++ following)))
frame_closed inside [] inside_is no_field = tt
frame_closed inside (b ∷ following) inside_is no_field =
    cond_both (b == closing_bracket) _ _ (λ o. IfSome o (IsSpelled IsFrame (opening_bracket ∷ (inside ++ b ∷ following))))
    (λ yes.
    let closing : b ≡ closing_bracket = eqb-true b closing_bracket yes in
    let none = sym (begins_inside inside following) ∙ ap (λ x. begins_field (inside ++ x ∷ following)) (sym closing) ∙ no_field in
    subst (λ x. IsSpelled IsFrame (opening_bracket ∷ (inside ++ x ∷ following)) (record { inside = length inside; length = length_at following }, length inside + 2 + length_size following))
    (sym closing)
    (frame_here inside following inside_is none))
    (λ _. tt)

frame_begun : (rest : List ℕ) → begins_field rest ≡ false → IfSome (closed_frame (inside_size rest) (drop (inside_size rest) rest)) (IsSpelled IsFrame (opening_bracket ∷ rest))
frame_begun rest no_field =
    let n = inside_size rest in
    let inside = take n rest in
    let following = drop n rest in
    let whole : inside ++ following ≡ rest = take-append-drop n rest in
    let long : length inside ≡ n = length-take-le n rest (prefix_len-le-length is_inside rest) in
    subst (λ k. IfSome (closed_frame k following) (IsSpelled IsFrame (opening_bracket ∷ rest))) long
    (subst (λ l. IfSome (closed_frame (length inside) following) (IsSpelled IsFrame (opening_bracket ∷ l))) whole
    (frame_closed inside following (front_passes is_inside rest) (ap begins_field whole ∙ no_field)))

pub frame_sound : (text : List ℕ) → IfSome (frame_at text) (IsSpelled IsFrame text)
unfolding frame_at
frame_sound [] = tt
frame_sound (b ∷ rest) =
    byte_and (IsSpelled IsFrame) opening_bracket b rest (not (begins_field rest)) (closed_frame (inside_size rest) (drop (inside_size rest) rest)) (λ begins. frame_begun rest (not-true _ begins))
