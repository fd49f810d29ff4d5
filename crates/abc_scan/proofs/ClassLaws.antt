-- A line has a class exactly if the class's description holds.
use Rattle.std.proofs.Common.{◌≡◌, ℕ, Bool, true, false, cond, not, ◌&&◌, Option, Some, None, List, [], ◌∷◌, ◌++◌, refl, sym, ap, ◌∙◌, subst, ⊎_elim, IsTrue}
use Rattle.std.specs.Prelude.{IfSome, ◌↔◌, ◌==◌}
use Rattle.std.proofs.lemmas.Bool.{eqb-true, eq-eqb, eqb-false, and_parts, and_from, or_from, cases_Bool, both_ways, not_from_true, not_from_false, false_from_ne_true, not-true, cond-true, cond-false}
use Rattle.std.proofs.lemmas.Bool.{cond_both, false≢true}
use Rattle.std.proofs.lemmas.List.Elements.{All-nil, All-cons, All-head, All-tail}
use Rattle.abc_scan.specs.declared.line_class.LineClass.{LineClass}
use Rattle.abc_scan.specs.declared.line_class.LineClass.TheVariants.{Blank, Comment, Field, Directive, Music}
use Rattle.abc_text.specs.Blank.{AreBlanks, is_blank}
use Rattle.abc_scan.specs.Class.{first_visible, names_field, is_music_letter, begins_bar, field_letter, field_or_music, class_by, class_of_text, BeginsWithPercent, IsFieldLine}
use Rattle.abc_scan.specs.Directive.{is_directive, IsDirectiveLine}
use Rattle.abc_scan.proofs.Directives.{directive-line, line-directive, directive-percent}

-- the first visible byte after a blank, and in front
visible_later : (b : ℕ) (bs : List ℕ) → is_blank b ≡ true → first_visible (b ∷ bs) ≡ first_visible bs
visible_later b bs e = cond-false _ _ _ (not_from_true _ e)

visible_here : (b : ℕ) (bs : List ℕ) → is_blank b ≡ false → first_visible (b ∷ bs) ≡ Some b
visible_here b bs e = cond-true _ _ _ (not_from_false _ e)

-- nothing is visible exactly in a line of blanks
blank_from : (text : List ℕ) → first_visible text ≡ None → AreBlanks text
blank_from [] e = All-nil _
blank_from (b ∷ bs) e = ⊎_elim
    (λ blank. All-cons (λ x. IsTrue (is_blank x)) b bs blank (blank_from bs (sym (visible_later b bs blank) ∙ e)))
    (λ seen. let k = visible_here b bs seen in cc)
    (cases_Bool (is_blank b))

blank_to : (text : List ℕ) → AreBlanks text → first_visible text ≡ None
blank_to [] h = refl
blank_to (b ∷ bs) h = visible_later b bs (All-head (λ b. IsTrue (is_blank b)) b bs h) ∙ blank_to bs (All-tail (λ b. IsTrue (is_blank b)) b bs h)

comment_from : (text : List ℕ) → first_visible text ≡ Some 37 → BeginsWithPercent text
comment_from [] e = cc
comment_from (b ∷ bs) e = ⊎_elim
    (λ blank. let h = comment_from bs (sym (visible_later b bs blank) ∙ e) in (b ∷ h.0, h.1, All-cons (λ x. IsTrue (is_blank x)) b h.0 blank h.2, ap (λ l. b ∷ l) h.3))
    (λ seen. let k = visible_here b bs seen in let is_percent : b ≡ 37 = cc in ([], bs, All-nil _, ap (λ x. x ∷ bs) is_percent))
    (cases_Bool (is_blank b))

comment_to : (blanks rest : List ℕ) → AreBlanks blanks → first_visible (blanks ++ 37 ∷ rest) ≡ Some 37
comment_to [] rest h = refl
comment_to (b ∷ bs) rest h = visible_later b (bs ++ 37 ∷ rest) (All-head (λ b. IsTrue (is_blank b)) b bs h) ∙ comment_to bs rest (All-tail (λ b. IsTrue (is_blank b)) b bs h)

-- the test of a field, and its description
field-sound : (text : List ℕ) → IfSome (field_letter text) (IsFieldLine text)
field-sound [] = tt
field-sound (a ∷ []) = tt
field-sound (a ∷ b ∷ rest) = cond_both (names_field a && (b == 58) && not (is_music_letter a && begins_bar rest)) (Some a) None (λ o. IfSome o (IsFieldLine (a ∷ b ∷ rest)))
    (λ yes.
    let parts = and_parts _ _ yes in
    let fronts = and_parts _ _ parts.0 in
    record {
      value = rest;
      spelling = ap (λ x. a ∷ x ∷ rest) (eqb-true b 58 fronts.1);
      named = fronts.0;
      no_repeat = λ music bar. both_ways _ (not-true _ parts.1) (and_from _ _ music bar);
    })
    (λ _. tt)

field_to : (text : List ℕ) (letter : ℕ) → IsFieldLine text letter → field_letter text ≡ Some letter
field_to text letter h =
    let no_bar = false_from_ne_true (is_music_letter letter && begins_bar h.value) (λ both. let p = and_parts _ _ both in h.no_repeat p.0 p.1) in
    ap field_letter h.spelling ∙ cond-true _ _ _ (and_from _ _ (and_from _ _ h.named refl) (not_from_false _ no_bar))

-- a field's letter is visible, and no percent sign
not_that : (b n : ℕ) → names_field b ≡ true → names_field n ≡ false → (b == n) ≡ false
not_that b n named other = false_from_ne_true _ (λ same. both_ways _ other (ap names_field (sym (eqb-true b n same)) ∙ named))

named_visible : (b : ℕ) → names_field b ≡ true → (is_blank b ≡ false) × ((b == 37) ≡ false)
named_visible b e = (or_from _ _ (not_that b 32 e refl) (not_that b 9 e refl), not_that b 37 e refl)

pub field_visible : (text : List ℕ) (letter : ℕ) → IsFieldLine text letter → (first_visible text ≡ Some letter) × ((letter == 37) ≡ false)
field_visible text letter h =
    let seen = named_visible letter h.named in
    (ap first_visible h.spelling ∙ visible_here letter (58 ∷ h.value) seen.0, seen.1)

-- the five classes, by the first visible byte, the letter, and whether a directive is read
pub record Told (seen letter : Option ℕ) (directive : Bool) (B P D : Type 0) (F : ℕ → Type 0) : Type 0 where
  pub blank_is : seen ≡ None → B
  pub is_blank : B → seen ≡ None
  pub percent_is : seen ≡ Some 37 → P
  pub is_percent : P → seen ≡ Some 37
  pub directive_is : directive ≡ true → D
  pub is_directive : D → directive ≡ true
  pub directive_seen : D → seen ≡ Some 37
  pub field_is : (l : ℕ) → letter ≡ Some l → F l
  pub is_field : (l : ℕ) → F l → letter ≡ Some l
  pub is_seen : (l : ℕ) → F l → (seen ≡ Some l) × ((l == 37) ≡ false)

pub told : (text : List ℕ) → Told (first_visible text) (field_letter text) (is_directive text) (AreBlanks text) (BeginsWithPercent text) (IsDirectiveLine text) (IsFieldLine text)
told text = record {
  blank_is = blank_from text;
  is_blank = blank_to text;
  percent_is = comment_from text;
  is_percent = λ h. ap first_visible h.3 ∙ comment_to h.0 h.1 h.2;
  directive_is = directive-line text;
  is_directive = line-directive text;
  directive_seen = λ h. let p = directive-percent text h in ap first_visible p.1;
  field_is = λ l e. subst (λ o. IfSome o (IsFieldLine text)) e (field-sound text);
  is_field = field_to text;
  is_seen = field_visible text;
}

pub record Laws (r : LineClass) (B P D : Type 0) (F : ℕ → Type 0) : Type 0 where
  pub blank : (r ≡ Blank) ↔ B
  pub comment : (r ≡ Comment) ↔ (P × (D → ⊥))
  pub directive : (r ≡ Directive) ↔ D
  pub field : (l : ℕ) → (r ≡ Field l) ↔ F l
  pub music : (r ≡ Music) ↔ ((B → ⊥) × ((P × (D → ⊥)) → ⊥) × (D → ⊥) × ((l : ℕ) → F l → ⊥))

laws_blank : (letter : Option ℕ) (directive : Bool) {B P D : Type 0} {F : ℕ → Type 0} → Told None letter directive B P D F → Laws Blank B P D F
laws_blank letter directive t = record {
  blank = (λ _. t.blank_is refl, λ _. refl);
  comment = (λ e. cc, λ h. let k = t.is_percent h.0 in cc);
  directive = (λ e. cc, λ h. let k = t.directive_seen h in cc);
  field = λ l. (λ e. cc, λ h. let k = (t.is_seen l h).0 in cc);
  music = (λ e. cc, λ h. absurd (h.0 (t.blank_is refl)));
}

no_field : (l : ℕ) → Some 37 ≡ Some l → (l == 37) ≡ false → ⊥
no_field l seen other = let same : l ≡ 37 = cc in both_ways (l == 37) other (eq-eqb l 37 same)

laws_directive : (letter : Option ℕ) {B P D : Type 0} {F : ℕ → Type 0} → Told (Some 37) letter true B P D F → Laws Directive B P D F
laws_directive letter t = record {
  blank = (λ e. cc, λ h. let k = t.is_blank h in cc);
  comment = (λ e. cc, λ h. absurd (h.1 (t.directive_is refl)));
  directive = (λ _. t.directive_is refl, λ _. refl);
  field = λ l. (λ e. cc, λ h. let k = t.is_seen l h in absurd (no_field l k.0 k.1));
  music = (λ e. cc, λ h. absurd (h.2 (t.directive_is refl)));
}

laws_comment : (letter : Option ℕ) {B P D : Type 0} {F : ℕ → Type 0} → Told (Some 37) letter false B P D F → Laws Comment B P D F
laws_comment letter {B} {P} {D} t =
    let none : D → ⊥ = λ d. false≢true (t.is_directive d) in
    record {
      blank = (λ e. cc, λ h. let k = t.is_blank h in cc);
      comment = (λ _. (t.percent_is refl, none), λ _. refl);
      directive = (λ e. cc, λ h. absurd (none h));
      field = λ l. (λ e. cc, λ h. let k = t.is_seen l h in absurd (no_field l k.0 k.1));
      music = (λ e. cc, λ h. absurd (h.1 (t.percent_is refl, none)));
    }

laws_field : (b l : ℕ) (directive : Bool) {B P D : Type 0} {F : ℕ → Type 0} → (b ≡ 37 → ⊥) → Told (Some b) (Some l) directive B P D F → Laws (Field l) B P D F
laws_field b l directive differs t = record {
  blank = (λ e. cc, λ h. let k = t.is_blank h in cc);
  comment = (λ e. cc, λ h. let k = t.is_percent h.0 in absurd (differs cc));
  directive = (λ e. cc, λ h. let k = t.directive_seen h in absurd (differs cc));
  field = λ m. (λ e. t.field_is m cc, λ h. let k = t.is_field m h in cc);
  music = (λ e. cc, λ h. absurd (h.3 l (t.field_is l refl)));
}

laws_music : (b : ℕ) (directive : Bool) {B P D : Type 0} {F : ℕ → Type 0} → (b ≡ 37 → ⊥) → Told (Some b) None directive B P D F → Laws Music B P D F
laws_music b directive differs t = record {
  blank = (λ e. cc, λ h. let k = t.is_blank h in cc);
  comment = (λ e. cc, λ h. let k = t.is_percent h.0 in absurd (differs cc));
  directive = (λ e. cc, λ h. let k = t.directive_seen h in absurd (differs cc));
  field = λ m. (λ e. cc, λ h. let k = t.is_field m h in cc);
  music = (
    λ _. (
      λ h. let k : Some b ≡ None = t.is_blank h in cc,
      λ h. let k = t.is_percent h.0 in differs cc,
      λ h. let k = t.directive_seen h in differs cc,
      λ m h. let k : None ≡ Some m = t.is_field m h in
          cc,
    ),
    λ _. refl,
  );
}

laws_seen : (b : ℕ) (letter : Option ℕ) (directive : Bool) {B P D : Type 0} {F : ℕ → Type 0} → (b ≡ 37 → ⊥) → Told (Some b) letter directive B P D F → Laws (field_or_music letter) B P D F
laws_seen b None directive differs t = laws_music b directive differs t
laws_seen b (Some l) directive differs t = laws_field b l directive differs t

laws_percent : (letter : Option ℕ) (directive : Bool) {B P D : Type 0} {F : ℕ → Type 0} → Told (Some 37) letter directive B P D F → Laws (cond directive Directive Comment) B P D F
laws_percent letter true t = laws_directive letter t
laws_percent letter false t = laws_comment letter t

laws_some : (b : ℕ) (letter : Option ℕ) (directive test : Bool) {B P D : Type 0} {F : ℕ → Type 0} → (b == 37) ≡ test → Told (Some b) letter directive B P D F
    → Laws (cond test (cond directive Directive Comment) (field_or_music letter)) B P D F
laws_some b letter directive true {B} {P} {D} {F} e t = laws_percent letter directive (subst (λ x. Told (Some x) letter directive B P D F) (eqb-true b 37 e) t)
laws_some b letter directive false e t = laws_seen b letter directive (eqb-false b 37 e) t

laws_at : (seen letter : Option ℕ) (directive : Bool) {B P D : Type 0} {F : ℕ → Type 0} → Told seen letter directive B P D F → Laws (class_by seen letter directive) B P D F
laws_at None letter directive t = laws_blank letter directive t
laws_at (Some b) letter directive t = laws_some b letter directive (b == 37) refl t

pub laws : (text : List ℕ) (r : LineClass) → r ≡ class_of_text text → Laws r (AreBlanks text) (BeginsWithPercent text) (IsDirectiveLine text) (IsFieldLine text)
laws text r e = subst (λ x. Laws x (AreBlanks text) (BeginsWithPercent text) (IsDirectiveLine text) (IsFieldLine text)) (sym e) (laws_at _ _ _ (told text))
