-- What an item that comes or goes at an edge of the gap leaves.
--     somes_laid                      what such places hold
--     last_of                         a list that is not empty is a list and its last item
--     get_or-low_full, get_or-low_empty             the place at the lower edge, before and after it
--     get_or-high_full, get_or-high_empty           the place at the upper edge, after and before it
--     set-fill_low, set-clear_low, set-fill_high, set-clear_high      what a write or a read there makes
use Rattle.std.proofs.Common.{◌≡◌, ℕ, suc, zero, ◌+◌, ◌-◌, ◌<◌, ◌≤◌, List, [], ◌∷◌, ◌++◌, map, length, replicate, get_or, set, Option, Some, None, Bool, true, false, if◌then◌else◌, nat_lt}
use Rattle.std.proofs.Common.{⊎_elim, refl, sym, ap, ◌∙◌, arith}
use Rattle.std.proofs.lemmas.List.{append-nil, get_or_at, length-append, set_at}
use Rattle.std.proofs.lemmas.Option.{slice_get_past}
use Rattle.std.proofs.lemmas.Bool.{cases_Bool, ltb-true, ltb-false}
use Rattle.std.specs.List.{insert, remove, slice_get}
use Rattle.abc_lines.specs.GapRow.{somes, items_of, laid, place_of, IsGapped, Becomes}
use Rattle.abc_lines.specs.declared.gap_row.GapRow.{GapRow}
use Rattle.abc_lines.specs.declared.places.Places.{Places}

module _ {X : Type 0} where
  somes_full : (xs : List X) → somes (map Some xs) ≡ xs
  somes_full [] = refl
  somes_full (x ∷ xs) = ap (λ ys. x ∷ ys) (somes_full xs)

  somes_empty : (n : ℕ) (cs : List (Option X)) → somes (replicate n None ++ cs) ≡ somes cs
  somes_empty zero cs = refl
  somes_empty (suc n) cs = somes_empty n cs

  pub somes_laid : (front : List X) (n : ℕ) (back : List X) → somes (laid front n back) ≡ front ++ back
  somes_laid [] n back = somes_empty n (map Some back) ∙ somes_full back
  somes_laid (x ∷ front) n back = ap (λ ys. x ∷ ys) (somes_laid front n back)

  pub last_of : (xs : List X) → 0 < length xs → (ys : List X) × (y : X) × (xs ≡ ys ++ y ∷ [])
  last_of [] some = absurd (omega arith)
  last_of (x ∷ []) some = ([], x, refl)
  last_of (x ∷ x' ∷ xs) some = let rest = last_of (x' ∷ xs) (omega arith) in (x ∷ rest.0, rest.1, ap (λ zs. x ∷ zs) rest.2)

  length_map : (xs : List X) → length (map Some xs) ≡ length xs
  length_map [] = refl
  length_map (x ∷ xs) = ap suc (length_map xs)

  -- the lower edge
  low : (front : List X) (x : X) (n : ℕ) (back : List X) → laid (front ++ x ∷ []) n back ≡ map Some front ++ Some x ∷ (replicate n None ++ map Some back)
  low [] x n back = refl
  low (y ∷ front) x n back = ap (λ cs. Some y ∷ cs) (low front x n back)

  -- the upper edge
  abbrev upper : List X → ℕ → List (Option X)
  upper front n = map Some front ++ replicate n None

  none_on : (n : ℕ) (cs : List (Option X)) → None ∷ (replicate n None ++ cs) ≡ replicate n None ++ None ∷ cs
  none_on zero cs = refl
  none_on (suc n) cs = ap (λ ds. None ∷ ds) (none_on n cs)

  apart : (cs ds es : List (Option X)) → cs ++ (ds ++ es) ≡ (cs ++ ds) ++ es
  apart [] ds es = refl
  apart (c ∷ cs) ds es = ap (λ fs. c ∷ fs) (apart cs ds es)

  long : (front : List X) (n : ℕ) → length (upper front n) ≡ length front + n
  long [] zero = refl
  long [] (suc n) = ap suc (long [] n) ∙ omega arith
  long (x ∷ front) n = ap suc (long front n) ∙ omega arith

  high : (front : List X) (n : ℕ) (x : X) (back : List X) → laid front n (x ∷ back) ≡ upper front n ++ Some x ∷ map Some back
  high front n x back = apart (map Some front) (replicate n None) (Some x ∷ map Some back)

  wider : (front : List X) (n : ℕ) (back : List X) → laid front (suc n) back ≡ upper front n ++ None ∷ map Some back
  wider front n back = ap (λ cs. map Some front ++ cs) (none_on n (map Some back)) ∙ apart (map Some front) (replicate n None) (None ∷ map Some back)

  module _ (front : List X) (x : X) (n : ℕ) (back : List X) where
    pub get_or-low_full : (i : ℕ) → i ≡ length front → get_or (laid (front ++ x ∷ []) n back) i None ≡ Some x
    get_or-low_full i is = ap (λ cs. get_or cs i None) (low front x n back) ∙ get_or_at (map Some front) (Some x) (replicate n None ++ map Some back) None i (length_map front ∙ sym is)

    pub get_or-low_empty : (i : ℕ) → i ≡ length front → get_or (laid front (suc n) back) i None ≡ None
    get_or-low_empty i is = get_or_at (map Some front) None (replicate n None ++ map Some back) None i (length_map front ∙ sym is)

    pub set-clear_low : (i : ℕ) → i ≡ length front → set (laid (front ++ x ∷ []) n back) i None ≡ laid front (suc n) back
    set-clear_low i is = ap (λ cs. set cs i None) (low front x n back) ∙ set_at (map Some front) (Some x) (replicate n None ++ map Some back) None i (length_map front ∙ sym is)

    pub set-fill_low : (i : ℕ) → i ≡ length front → set (laid front (suc n) back) i (Some x) ≡ laid (front ++ x ∷ []) n back
    set-fill_low i is = set_at (map Some front) None (replicate n None ++ map Some back) (Some x) i (length_map front ∙ sym is) ∙ sym (low front x n back)

    pub get_or-high_full : (i : ℕ) → i ≡ length front + n → get_or (laid front n (x ∷ back)) i None ≡ Some x
    get_or-high_full i is = ap (λ cs. get_or cs i None) (high front n x back) ∙ get_or_at (upper front n) (Some x) (map Some back) None i (long front n ∙ sym is)

    pub get_or-high_empty : (i : ℕ) → i ≡ length front + n → get_or (laid front (suc n) back) i None ≡ None
    get_or-high_empty i is = ap (λ cs. get_or cs i None) (wider front n back) ∙ get_or_at (upper front n) None (map Some back) None i (long front n ∙ sym is)

    pub set-clear_high : (i : ℕ) → i ≡ length front + n → set (laid front n (x ∷ back)) i None ≡ laid front (suc n) back
    set-clear_high i is = ap (λ cs. set cs i None) (high front n x back) ∙ set_at (upper front n) (Some x) (map Some back) None i (long front n ∙ sym is) ∙ sym (wider front n back)

    pub set-fill_high : (i : ℕ) → i ≡ length front + n → set (laid front (suc n) back) i (Some x) ≡ laid front n (x ∷ back)
    set-fill_high i is = ap (λ cs. set cs i (Some x)) (wider front n back) ∙ set_at (upper front n) None (map Some back) (Some x) i (long front n ∙ sym is) ∙ sym (high front n x back)

module _ {X : Type 0} where
  -- lists at a seam
  seam : (front : List X) (x : X) (back : List X) → front ++ x ∷ back ≡ (front ++ x ∷ []) ++ back
  seam [] x back = refl
  seam (y ∷ front) x back = ap (λ zs. y ∷ zs) (seam front x back)

  length_push : (xs : List X) (x : X) → length (xs ++ x ∷ []) ≡ suc (length xs)
  length_push [] x = refl
  length_push (y ∷ xs) x = ap suc (length_push xs x)

  length_join : (xs ys : List (Option X)) → length (xs ++ ys) ≡ length xs + length ys
  length_join [] ys = omega arith
  length_join (x ∷ xs) ys = omega (arith, length_join xs ys)

  length_laid : (front : List X) (n : ℕ) (back : List X) → length (laid front n back) ≡ length front + (n + length back)
  length_laid [] zero [] = refl
  length_laid [] zero (x ∷ back) = omega (arith, length_laid [] zero back)
  length_laid [] (suc n) back = omega (arith, length_laid [] n back)
  length_laid (x ∷ front) n back = omega (arith, length_laid front n back)

  inserted : (front back : List X) (x : X) → insert (front ++ back) (length front) x ≡ front ++ x ∷ back
  inserted [] back x = refl
  inserted (y ∷ front) back x = ap (λ zs. y ∷ zs) (inserted front back x)

  removed : (front : List X) (x : X) (back : List X) → remove (front ++ x ∷ back) (length front) ≡ front ++ back
  removed [] x back = refl
  removed (y ∷ front) x back = ap (λ zs. y ∷ zs) (removed front x back)

  at_seam : (front : List X) (x : X) (back : List X) → slice_get (front ++ x ∷ back) (length front) ≡ Some x
  at_seam [] x back = refl
  at_seam (y ∷ front) x back = at_seam front x back

  first_of : (xs : List X) → 0 < length xs → (y : X) × (ys : List X) × (xs ≡ y ∷ ys)
  first_of [] some = absurd (omega arith)
  first_of (x ∷ xs) some = (x, xs, refl)

  some_at : (xs : List X) (i : ℕ) → i < length xs → (x : X) × (slice_get xs i ≡ Some x)
  some_at [] i lt = absurd (omega arith)
  some_at (x ∷ xs) zero lt = (x, refl)
  some_at (x ∷ xs) (suc i) lt = some_at xs i (omega arith)

  seen_items : (xs : List X) (i : ℕ) → get_or (map Some xs) i None ≡ slice_get xs i
  seen_items [] i = refl
  seen_items (x ∷ xs) zero = refl
  seen_items (x ∷ xs) (suc i) = seen_items xs i

  seen_past_gap : (n : ℕ) (back : List X) (i j : ℕ) → j ≡ i + n → get_or (replicate n None ++ map Some back) j None ≡ slice_get back i
  seen_past_gap zero back i j is = seen_items back j ∙ ap (λ k. slice_get back k) (omega (arith, is))
  seen_past_gap (suc n) back i zero is = absurd (omega arith)
  seen_past_gap (suc n) back i (suc j) is = seen_past_gap n back i j (omega arith)

  seen_front : (front : List X) (n : ℕ) (back : List X) (i : ℕ) → i < length front → get_or (laid front n back) i None ≡ slice_get (front ++ back) i
  seen_front [] n back i lt = absurd (omega arith)
  seen_front (x ∷ front) n back zero lt = refl
  seen_front (x ∷ front) n back (suc i) lt = seen_front front n back i (omega arith)

  seen_back : (front : List X) (n : ℕ) (back : List X) (i j : ℕ) → length front ≤ i → j ≡ i + n → get_or (laid front n back) j None ≡ slice_get (front ++ back) i
  seen_back [] n back i j le is = seen_past_gap n back i j is
  seen_back (x ∷ front) n back zero j le is = absurd (omega arith)
  seen_back (x ∷ front) n back (suc i) zero le is = absurd (omega arith)
  seen_back (x ∷ front) n back (suc i) (suc j) le is = seen_back front n back i j (omega arith) (omega arith)

-- a new block is a gap from end to end
pub all_gap : {X : Type 0} (row : List (Option X)) (room : ℕ) → row ≡ replicate room None → row ≡ laid [] (room - 0) []
all_gap row room is = is ∙ sym (append-nil (replicate room None)) ∙ ap (λ k. laid [] k []) (omega arith)

pub somes-none : {X : Type 0} (row : List (Option X)) (room : ℕ) → row ≡ replicate room None → somes row ≡ []
somes-none row room is = ap somes (all_gap row room is) ∙ somes_laid [] (room - 0) []

module _ {X : Type 0} {r : GapRow X} (g : IsGapped r) where
  abbrev gap : ℕ
  gap = r.capacity - r.size

  pub held : items_of r ≡ g.front ++ g.back
  held = ap somes g.row ∙ somes_laid g.front gap g.back

  pub length-items_of : length (items_of r) ≡ r.size
  length-items_of = ap length held ∙ length-append g.front g.back ∙ sym g.count

  pub get_or-before : (i : ℕ) → i < r.at → get_or r.places.row i None ≡ slice_get (items_of r) i
  get_or-before i lt = ap (λ cs. get_or cs i None) g.row ∙ seen_front g.front gap g.back i (omega (arith, g.before)) ∙ ap (λ xs. slice_get xs i) (sym held)

  pub get_or-after : (i : ℕ) → r.at ≤ i → get_or r.places.row (i + gap) None ≡ slice_get (items_of r) i
  get_or-after i le = ap (λ cs. get_or cs (i + gap) None) g.row ∙ seen_back g.front gap g.back i (i + gap) (omega (arith, g.before)) refl ∙ ap (λ xs. slice_get xs i) (sym held)

  pub held_at : (i : ℕ) → i < r.size → (x : X) × (slice_get (items_of r) i ≡ Some x)
  held_at i lt = some_at (items_of r) i (omega (arith, length-items_of))

  pub held_past : (i : ℕ) → r.size ≤ i → None ≡ slice_get (items_of r) i
  held_past i le = sym (slice_get_past (items_of r) i (omega (arith, length-items_of)))

  remade : (q : Places X) (s a : ℕ) (front back items : List X) → q.start ≡ r.places.start → q.row ≡ laid front (r.capacity - s) back → a ≡ length front → s ≡ length front + length back
      → s ≤ r.capacity → front ++ back ≡ items
      → Becomes r (record r { places = q; size = s; at = a }) items a s
  remade q s a front back items start row edge many fits same = record {
    gapped = record { front = front; back = back; row = row; before = edge; count = many; fits = fits; small = g.small; claimed = (g.claimed.0 ∙ sym start, g.claimed.1, g.claimed.2) };
    holds = ap somes row ∙ somes_laid front (r.capacity - s) back ∙ same;
    edge = refl;
    many = refl;
    places = refl;
  }

  -- the item before the gap
  module _ (some : 0 < r.at) where
    last : (ys : List X) × (y : X) × (g.front ≡ ys ++ y ∷ [])
    last = last_of g.front (omega (arith, g.before))

    row_back : r.places.row ≡ laid (last.0 ++ last.1 ∷ []) gap g.back
    row_back = g.row ∙ ap (λ (xs : List X). laid xs gap g.back) last.2

    count_back : length g.front ≡ suc (length last.0)
    count_back = ap length last.2 ∙ length_push last.0 last.1

    edge_back : r.at - 1 ≡ length last.0
    edge_back = omega (arith, g.before, count_back)

    is_last : get_or r.places.row (r.at - 1) None ≡ Some last.1
    is_last = ap (λ cs. get_or cs (r.at - 1) None) row_back ∙ get_or-low_full last.0 last.1 gap g.back (r.at - 1) edge_back

    pub full_before : (x : X) × (get_or r.places.row (r.at - 1) None ≡ Some x)
    full_before = (last.1, is_last)

    module _ (q : Places X) (item : X) (read : (get_or r.places.row (r.at - 1) None ≡ Some item) × (q.start ≡ r.places.start) × (q.row ≡ set r.places.row (r.at - 1) None)) where
      emptied : q.row ≡ laid last.0 (suc gap) g.back
      emptied = read.2 ∙ ap (λ cs. set cs (r.at - 1) None) row_back ∙ set-clear_low last.0 last.1 gap g.back (r.at - 1) edge_back

      reach_back : r.at - 1 + gap ≡ length last.0 + gap
      reach_back = ap (λ k. k + gap) edge_back

      pub free_after : (r.at - 1 + gap < length q.row) × (get_or q.row (r.at - 1 + gap) None ≡ None)
      free_after = (
        omega (arith, ap length emptied ∙ length_laid last.0 (suc gap) g.back, edge_back),
        ap (λ cs. get_or cs (r.at - 1 + gap) None) emptied ∙ get_or-high_empty last.0 last.1 gap g.back (r.at - 1 + gap) reach_back,
      )

      pub stepped_back : (p : Places X) → (p.start ≡ q.start) × (p.row ≡ set q.row (r.at - 1 + gap) (Some item)) → Becomes r (record r { places = p; at = r.at - 1 }) (items_of r) (r.at - 1) r.size
      stepped_back p wrote = remade p r.size (r.at - 1) last.0 (last.1 ∷ g.back) (items_of r) (wrote.0 ∙ read.1)
          (wrote.1 ∙ ap (λ cs. set cs (r.at - 1 + gap) (Some item)) emptied ∙ ap (λ c. set (laid last.0 (suc gap) g.back) (r.at - 1 + gap) c) (sym read.0 ∙ is_last)
          ∙ set-fill_high last.0 last.1 gap g.back (r.at - 1 + gap) reach_back)
          edge_back (omega (arith, g.count, count_back)) g.fits (seam last.0 last.1 g.back ∙ ap (λ (xs : List X). xs ++ g.back) (sym last.2) ∙ sym held)

  -- the item after the gap
  module _ (more : r.at < r.size) where
    next : (y : X) × (ys : List X) × (g.back ≡ y ∷ ys)
    next = first_of g.back (omega (arith, g.before, g.count))

    row_on : r.places.row ≡ laid g.front gap (next.0 ∷ next.1)
    row_on = g.row ∙ ap (λ (xs : List X). laid g.front gap xs) next.2

    count_on : length g.back ≡ suc (length next.1)
    count_on = ap length next.2

    reach_on : r.at + gap ≡ length g.front + gap
    reach_on = ap (λ k. k + gap) g.before

    held_on : items_of r ≡ g.front ++ next.0 ∷ next.1
    held_on = held ∙ ap (λ (xs : List X). g.front ++ xs) next.2

    is_next : get_or r.places.row (r.at + gap) None ≡ Some next.0
    is_next = ap (λ cs. get_or cs (r.at + gap) None) row_on ∙ get_or-high_full g.front next.0 gap next.1 (r.at + gap) reach_on

    pub full_after : (x : X) × (get_or r.places.row (r.at + gap) None ≡ Some x)
    full_after = (next.0, is_next)

    module _ (q : Places X) (item : X) (read : (get_or r.places.row (r.at + gap) None ≡ Some item) × (q.start ≡ r.places.start) × (q.row ≡ set r.places.row (r.at + gap) None)) where
      opened : q.row ≡ laid g.front (suc gap) next.1
      opened = read.2 ∙ ap (λ cs. set cs (r.at + gap) None) row_on ∙ set-clear_high g.front next.0 gap next.1 (r.at + gap) reach_on

      same_next : Some item ≡ Some next.0
      same_next = sym read.0 ∙ is_next

      pub free_before : (r.at < length q.row) × (get_or q.row r.at None ≡ None)
      free_before = (omega (arith, ap length opened ∙ length_laid g.front (suc gap) next.1, g.before), ap (λ cs. get_or cs r.at None) opened ∙ get_or-low_empty g.front next.0 gap next.1 r.at g.before)

      pub stepped_on : (p : Places X) → (p.start ≡ q.start) × (p.row ≡ set q.row r.at (Some item)) → Becomes r (record r { places = p; at = r.at + 1 }) (items_of r) (r.at + 1) r.size
      stepped_on p wrote = remade p r.size (r.at + 1) (g.front ++ next.0 ∷ []) next.1 (items_of r) (wrote.0 ∙ read.1)
          (wrote.1 ∙ ap (λ cs. set cs r.at (Some item)) opened ∙ ap (λ c. set (laid g.front (suc gap) next.1) r.at c) same_next ∙ set-fill_low g.front next.0 gap next.1 r.at g.before)
          (omega (arith, g.before, length_push g.front next.0)) (omega (arith, g.count, count_on, length_push g.front next.0)) g.fits (sym (seam g.front next.0 next.1) ∙ sym held_on)

      pub taken : slice_get (items_of r) r.at ≡ Some item
      taken = ap (λ xs. slice_get xs r.at) held_on ∙ ap (λ i. slice_get (g.front ++ next.0 ∷ next.1) i) g.before ∙ at_seam g.front next.0 next.1 ∙ sym same_next

      pub took : Becomes r (record r { places = q; size = r.size - 1 }) (remove (items_of r) r.at) r.at (r.size - 1)
      took = let shorter : suc gap ≡ r.capacity - (r.size - 1) = omega (arith, g.fits, more) in remade q (r.size - 1) r.at g.front next.1 (remove (items_of r) r.at) read.1
          (opened ∙ ap (λ k. laid g.front k next.1) shorter) g.before (omega (arith, g.count, count_on)) (omega (arith, g.fits))
          (sym (removed g.front next.0 next.1) ∙ ap (λ i. remove (g.front ++ next.0 ∷ next.1) i) (sym g.before) ∙ ap (λ xs. remove xs r.at) (sym held_on))

  pub put_in : r.size < r.capacity → (item : X) (p : Places X) → (p.start ≡ r.places.start) × (p.row ≡ set r.places.row r.at (Some item))
      → Becomes r (record r { places = p; size = r.size + 1; at = r.at + 1 }) (insert (items_of r) r.at item) (r.at + 1) (r.size + 1)
  put_in room item p wrote =
      let left = r.capacity - (r.size + 1) in let one_less : gap ≡ suc left = omega (arith, room) in
      remade p (r.size + 1) (r.at + 1) (g.front ++ item ∷ []) g.back (insert (items_of r) r.at item) wrote.0
      (wrote.1 ∙ ap (λ cs. set cs r.at (Some item)) (g.row ∙ ap (λ k. laid g.front k g.back) one_less) ∙ set-fill_low g.front item left g.back r.at g.before)
      (omega (arith, g.before, length_push g.front item)) (omega (arith, g.count, length_push g.front item)) (omega (arith, room))
      (sym (seam g.front item g.back) ∙ sym (inserted g.front g.back item) ∙ ap (λ i. insert (g.front ++ g.back) i item) (sym g.before) ∙ ap (λ xs. insert xs r.at item) (sym held))

  -- the item at an index
  module _ (index : ℕ) (inside : index < r.size) where
    pub get_or-seen_at : get_or r.places.row (place_of r index) None ≡ slice_get (items_of r) index
    get_or-seen_at = ⊎_elim
        (λ (e : nat_lt index r.at ≡ true). ap (λ (b : Bool). get_or r.places.row (if b then index else index + gap) None) e ∙ get_or-before index (ltb-true index r.at e))
        (λ (e : nat_lt index r.at ≡ false). ap (λ (b : Bool). get_or r.places.row (if b then index else index + gap) None) e ∙ get_or-after index (ltb-false index r.at e))
        (cases_Bool (nat_lt index r.at))

    pub full_at : (x : X) × (get_or r.places.row (place_of r index) None ≡ Some x)
    full_at = let x = held_at index inside in (x.0, get_or-seen_at ∙ x.1)
