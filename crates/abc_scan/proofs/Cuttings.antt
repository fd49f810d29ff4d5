-- Each text has one cutting, for any kind of parts.
use Rattle.std.proofs.Common.{◌≡◌, ℕ, zero, suc, ◌+◌, ◌-◌, ◌<◌, ◌≤◌, Bool, Option, Some, None, List, [], ◌∷◌, ◌++◌, length, take, drop, refl, sym, ap, ◌∙◌, subst, inl, inr, ⊎_elim, arith}
use Rattle.std.proofs.Common.{append_assoc, length-append, length-drop, length-take-le, take-append-drop}
use Rattle.std.specs.Prelude.{unwrap_or, All, IfSome}
use Rattle.std.proofs.lemmas.List.{drop-drop, take_rest}
use Rattle.std.proofs.lemmas.List.Elements.{All-nil, All-cons}
use Rattle.abc_scan.specs.declared.spanned.Spanned.{Spanned}
use Rattle.abc_scan.specs.Cutting.{Kinds, Grammar, Reader, unmatched_at, IsLongest, SpellsNone, IsNext, IsCuttingFrom, next, part_at, cutting_from}
use Rattle.abc_text.proofs.Fronts.{drop_exact}
use Rattle.abc_scan.specs.Front.{IsFront}
use Rattle.abc_scan.proofs.Readings.{Finds, IsSpelled}

-- a reading finds exactly the longest part of the grammar
pub record Reads {K : Type 0} (spells : Bool → List ℕ → K → Type 0) (reading : Bool → List ℕ → Option (K × ℕ)) : Type 0 where
  pub longest : (after_bar : Bool) (front rest : List ℕ) (kind : K) → spells after_bar front kind → Finds (reading after_bar (front ++ rest)) front kind
  pub sound : (after_bar : Bool) (text : List ℕ) → IfSome (reading after_bar text) (IsSpelled (spells after_bar) text)

-- the bytes inside a part are passed over
pub cutting_from-inside : {K : Type 0} (reader : Reader K) (after_bar : Bool) (at inside : ℕ) (text : List ℕ)
    → cutting_from reader after_bar at inside text ≡ cutting_from reader after_bar (at + inside) 0 (drop inside text)
cutting_from-inside reader after_bar at zero [] = refl
cutting_from-inside reader after_bar at (suc inside) [] = refl
cutting_from-inside reader after_bar at zero (b ∷ bs) = let e : at ≡ at + 0 = omega arith in ap (λ n. cutting_from reader after_bar n 0 (b ∷ bs)) e
cutting_from-inside reader after_bar at (suc inside) (b ∷ bs) =
    let e : at + 1 + inside ≡ at + suc inside = omega arith in
    cutting_from-inside reader after_bar (at + 1) inside bs ∙ ap (λ n. cutting_from reader after_bar n 0 (drop inside bs)) e

cutting_from-rest : {K : Type 0} (reader : Reader K) (after_bar : Bool) (at size b : ℕ) (bs : List ℕ) → 0 < size
    → cutting_from reader after_bar (at + 1) (size - 1) bs ≡ cutting_from reader after_bar (at + size) 0 (drop size (b ∷ bs))
cutting_from-rest reader after_bar at zero b bs some = absurd (omega arith)
cutting_from-rest reader after_bar at (suc k) b bs some =
    let e : suc k - 1 ≡ k = omega arith in
    let f : at + 1 + k ≡ at + suc k = omega arith in
    ap (λ n. cutting_from reader after_bar (at + 1) n bs) e ∙ cutting_from-inside reader after_bar (at + 1) k bs ∙ ap (λ n. cutting_from reader after_bar n 0 (drop k bs)) f

-- the parts after a first part
abbrev pub following : {K : Type 0} → Reader K → ℕ → List ℕ → K × ℕ → List (Spanned K)
following reader at text first = cutting_from reader (reader.kinds.is_bar first.0) (at + first.1) 0 (drop first.1 text)

-- the first part, and the parts after it
pub cutting_from-first : {K : Type 0} (reader : Reader K) (after_bar : Bool) (at : ℕ) (text : List ℕ) → 0 < length text → 0 < (next reader after_bar text).1
    → cutting_from reader after_bar at 0 text ≡ part_at at (next reader after_bar text) ∷ following reader at text (next reader after_bar text)
cutting_from-first reader after_bar at [] some size = absurd (omega arith)
cutting_from-first reader after_bar at (b ∷ bs) some size =
    let first = next reader after_bar (b ∷ bs) in
    ap (λ ts. part_at at first ∷ ts) (cutting_from-rest reader (reader.kinds.is_bar first.0) at first.1 b bs size)

-- one turn of a loop that cuts
pub cut_more : {K : Type 0} (reader : Reader K) (after_bar : Bool) (line : List ℕ) (items pushed all : List (Spanned K)) (place after_it at : ℕ) (r : K × ℕ) → after_it ≡ place + r.1
    → at < length line → IsFront (take (length line - at) (drop at line)) r.1 → r ≡ next reader after_bar (take (length line - at) (drop at line)) → pushed ≡ items ++ part_at place r ∷ []
    → items ++ cutting_from reader after_bar place 0 (drop at line) ≡ all
    → pushed ++ cutting_from reader (reader.kinds.is_bar r.0) after_it 0 (drop (at + r.1) line) ≡ all
cut_more {K} reader after_bar line items pushed all place after_it at r sum inside front is_read push before =
    let rest = drop at line in
    let read : r ≡ next reader after_bar rest = is_read ∙ ap (next reader after_bar) (take_rest line at) in
    let left : 0 < length rest = omega (arith, length-drop at line) in
    let some : 0 < (next reader after_bar rest).1 = subst (λ (x : K × ℕ). 0 < x.1) read front.some in
    let first = cutting_from-first reader after_bar place rest left some in
    let now : cutting_from reader after_bar place 0 rest ≡ part_at place r ∷ following reader place rest r =
    first ∙ sym (ap (λ (x : K × ℕ). part_at place x ∷ following reader place rest x) read) in
    let later : following reader place rest r ≡ cutting_from reader (reader.kinds.is_bar r.0) after_it 0 (drop (at + r.1) line) =
    (λ i. cutting_from reader (reader.kinds.is_bar r.0) (sym sum i) 0 (drop-drop r.1 at line i)) in
    let whole = cutting_from reader (reader.kinds.is_bar r.0) after_it 0 (drop (at + r.1) line) in
    ap (λ l. l ++ whole) push ∙ append_assoc items _ _ ∙ ap (λ l. items ++ (part_at place r ∷ l)) (sym later) ∙ ap (λ l. items ++ l) (sym now) ∙ before

-- a reading, with the bytes that begin no part
abbrev pub read_by : {K : Type 0} → Kinds K → (Bool → List ℕ → Option (K × ℕ)) → Reader K
read_by kinds reading = record { kinds = kinds; reading = reading }

-- a grammar, with the bytes that begin no part
abbrev pub spelled_by : {K : Type 0} → Kinds K → (Bool → List ℕ → K → Type 0) → Grammar K
spelled_by kinds spells = record { kinds = kinds; spells = spells }

-- the first part of a text, by the reading there
abbrev or_alone : {K : Type 0} → Kinds K → List ℕ → Option (K × ℕ) → K × ℕ
or_alone kinds text o = unwrap_or o (unmatched_at kinds text, 1)

module _ {K : Type 0} (kinds : Kinds K) (spells : Bool → List ℕ → K → Type 0) (reading : Bool → List ℕ → Option (K × ℕ)) (reads : Reads spells reading) where
  -- the longest front that is spelled, in any text that it begins
  longest_in : (after_bar : Bool) (text front rest : List ℕ) (kind : K) → text ≡ front ++ rest → spells after_bar front kind → Finds (reading after_bar text) front kind
  longest_in after_bar text front rest kind cut is = subst (λ l. Finds (reading after_bar l) front kind) (sym cut) (reads.longest after_bar front rest kind is)

  first_is : (after_bar : Bool) (text : List ℕ) (o : Option (K × ℕ)) → reading after_bar text ≡ o → IfSome o (IsSpelled (spells after_bar) text) → 0 < length text
      → IsFront text (or_alone kinds text o).1 × IsNext kinds (spells after_bar) text (take (or_alone kinds text o).1 text) (or_alone kinds text o).0
  first_is after_bar text (Some token) e sound some =
      let long : length (take token.1 text) ≡ token.1 = length-take-le token.1 text sound.0.inside in (
        sound.0,
        inl (record {
          spelled = sound.1;
          longest = λ other rest k cut spelled.
              let l = longest_in after_bar text other rest k cut spelled in
              let read : Some (l.found, l.size) ≡ Some token = sym l.is_read ∙ e in
              let same : l.size ≡ token.1 = ap (λ (o : Option (K × ℕ)). (or_alone kinds text o).1) read in
              omega (arith, l.long, same, long);
        }),
      )
  first_is after_bar text None e sound some = (
    record { some = omega arith; inside = omega arith },
    inr (
      λ front rest kind cut spelled. let l = longest_in after_bar text front rest kind cut spelled in let read : None ≡ Some (l.found, l.size) = sym e ∙ l.is_read in cc,
      length-take-le 1 text (omega arith),
      refl,
    ),
  )

  pub next_is : (after_bar : Bool) (text : List ℕ) → 0 < length text
      → IsFront text (next (read_by kinds reading) after_bar text).1
      × IsNext kinds (spells after_bar) text (take (next (read_by kinds reading) after_bar text).1 text) (next (read_by kinds reading) after_bar text).0
  next_is after_bar text some = first_is after_bar text (reading after_bar text) refl (reads.sound after_bar text) some

  first_size : (after_bar : Bool) (text : List ℕ) (o : Option (K × ℕ)) → IfSome o (IsSpelled (spells after_bar) text) → 0 < (or_alone kinds text o).1
  first_size after_bar text (Some token) sound = sound.0.some
  first_size after_bar text None sound = omega arith

  pub next_size : (after_bar : Bool) (text : List ℕ) → 0 < (next (read_by kinds reading) after_bar text).1
  next_size after_bar text = first_size after_bar text (reading after_bar text) (reads.sound after_bar text)

  none_only : (after_bar : Bool) (text : List ℕ) (o : Option (K × ℕ)) → IfSome o (IsSpelled (spells after_bar) text) → SpellsNone (spells after_bar) text
      → or_alone kinds text o ≡ (unmatched_at kinds text, 1)
  none_only after_bar text (Some token) sound none = absurd (none (take token.1 text) (drop token.1 text) token.0 (sym (take-append-drop token.1 text)) sound.1)
  none_only after_bar text None sound none = refl

  longest_only : (after_bar : Bool) (text front rest : List ℕ) (kind : K) → text ≡ front ++ rest → IsLongest (spells after_bar) text front kind
      → next (read_by kinds reading) after_bar text ≡ (kind, length front)
  longest_only after_bar text front rest kind cut is =
      let l = longest_in after_bar text front rest kind cut is.spelled in
      let sound = subst (λ o. IfSome o (IsSpelled (spells after_bar) text)) l.is_read (reads.sound after_bar text) in
      let within = is.longest (take l.size text) (drop l.size text) l.found (sym (take-append-drop l.size text)) sound.1 in
      let same : length front ≡ l.size = omega (arith, within, l.long, length-take-le l.size text sound.0.inside) in
      ap (or_alone kinds text) l.is_read ∙ (λ i. (sym (l.same same) i, sym same i))

  pub next_only : (after_bar : Bool) (text front rest : List ℕ) (kind : K) → text ≡ front ++ rest → IsNext kinds (spells after_bar) text front kind
      → next (read_by kinds reading) after_bar text ≡ (kind, length front)
  next_only after_bar text front rest kind cut is = ⊎_elim
      (λ longest. longest_only after_bar text front rest kind cut longest)
      (λ none. none_only after_bar text (reading after_bar text) (reads.sound after_bar text) none.0 ∙ (λ i. (sym none.2 i, sym none.1 i)))
      is

  pub cuts_from : (fuel : ℕ) (after_bar : Bool) (at : ℕ) (text : List ℕ) → length text ≤ fuel
      → IsCuttingFrom (spelled_by kinds spells) after_bar at text (cutting_from (read_by kinds reading) after_bar at 0 text)
  cuts_from fuel after_bar at [] enough = refl
  cuts_from zero after_bar at (b ∷ bs) enough = absurd (omega arith)
  cuts_from (suc fuel) after_bar at (b ∷ bs) enough =
      let text = b ∷ bs in
      let size = (next (read_by kinds reading) after_bar text).1 in
      let first = next_is after_bar text (omega arith) in
      let long : length (take size text) ≡ size = length-take-le size text first.0.inside in
      let less : length (drop size text) ≤ fuel = omega (arith, length-drop size text, first.0.some) in
      subst (IsCuttingFrom (spelled_by kinds spells) after_bar at text) (sym (cutting_from-first (read_by kinds reading) after_bar at text (omega arith) first.0.some)) (
        take size text,
        drop size text,
        sym (take-append-drop size text),
        first.1,
        refl,
        ap (λ k. at + k) (sym long),
        cuts_from fuel (kinds.is_bar (next (read_by kinds reading) after_bar text).0) (at + size) (drop size text) less,
      )

  pub only_cutting : (after_bar : Bool) (at : ℕ) (text : List ℕ) (tokens : List (Spanned K)) → IsCuttingFrom (spelled_by kinds spells) after_bar at text tokens
      → tokens ≡ cutting_from (read_by kinds reading) after_bar at 0 text
  only_cutting after_bar at text [] is = sym (ap (λ l. cutting_from (read_by kinds reading) after_bar at 0 l) is)
  only_cutting after_bar at text (t ∷ ts) (front, rest, cut, first, from, to, more) =
      let found = next (read_by kinds reading) after_bar text in
      let only : found ≡ (t.kind, length front) = next_only after_bar text front rest t.kind cut first in
      let kind : found.0 ≡ t.kind = ap (λ (x : K × ℕ). x.0) only in
      let size : found.1 ≡ length front = ap (λ (x : K × ℕ). x.1) only in
      let some = next_size after_bar text in
      let left : 0 < length text = omega (arith, size, some, ap length cut, length-append front rest) in
      let end : t.to ≡ at + found.1 = to ∙ ap (λ k. at + k) (sym size) in
      let after_it : drop found.1 text ≡ rest = ap (λ l. drop found.1 l) cut ∙ drop_exact found.1 front rest size in
      let later : ts ≡ following (read_by kinds reading) at text found =
      only_cutting (kinds.is_bar t.kind) t.to rest ts more ∙ (λ i. cutting_from (read_by kinds reading) (kinds.is_bar (sym kind i)) (end i) 0 (sym after_it i)) in
      let token : t ≡ part_at at found = λ i. record { kind = sym kind i; from = from i; to = end i } in
      (λ i. token i ∷ later i) ∙ sym (cutting_from-first (read_by kinds reading) after_bar at text left some)

-- a law of each kind that is spelled, and of each byte alone, holds of all parts
pub cut-all : {K : Type 0} (kinds : Kinds K) (spells : Bool → List ℕ → K → Type 0) (P : K → Type 0) → ((after_bar : Bool) (text : List ℕ) (kind : K) → spells after_bar text kind → P kind)
    → ((text : List ℕ) → P (unmatched_at kinds text)) → (after_bar : Bool) (at : ℕ) (text : List ℕ) (parts : List (Spanned K)) → IsCuttingFrom (spelled_by kinds spells) after_bar at text parts
    → All (λ t. P t.kind) parts
cut-all kinds spells P spelled alone after_bar at text [] is = All-nil (λ t. P t.kind)
cut-all kinds spells P spelled alone after_bar at text (t ∷ ts) (front, rest, cut, first, from, to, more) =
    All-cons (λ u. P u.kind) t ts
    (⊎_elim (λ longest. spelled after_bar front t.kind longest.spelled) (λ none. subst P (sym none.2) (alone text)) first)
    (cut-all kinds spells P spelled alone (kinds.is_bar t.kind) t.to rest ts more)
