-- What is read of broken rhythm is what acts.
use Rattle.std.proofs.Common.{◌≡◌, ℕ, zero, suc, ◌+◌, ◌-◌, ◌<◌, ◌≤◌, Bool, true, false, List, [], ◌∷◌, length, take, drop, Option, Some, None, refl, sym, ap, ◌∙◌, subst, ⊎_elim, arith}
use Rattle.std.specs.Prelude.{◌↔◌, not, ◌&&◌, slice_get, IsSomeAnd, if◌then◌else◌}
use Rattle.std.proofs.lemmas.Bool.{cases_eq}
use Rattle.abc_scan.specs.declared.broken.BrokenRhythm.{BrokenRhythm}
use Rattle.abc_scan.specs.declared.chord.Chord.{Chord}
use Rattle.abc_scan.specs.declared.spanned.Spanned.{Spanned}
use Rattle.abc_scan.specs.declared.token.TokenKind.{TokenKind}
use Rattle.abc_scan.specs.declared.token.TokenKind.TheVariants as kinds
use Rattle.abc_bars_notes.specs.declared.broken.Preceding.{Preceding}
use Rattle.abc_bars_notes.specs.declared.broken.Preceding.TheVariants as precedings
use Rattle.abc_bars_notes.specs.declared.broken.BrokenRole.{BrokenRole}
use Rattle.abc_bars_notes.specs.declared.broken.BrokenRole.TheVariants as roles
use Rattle.abc_bars_notes.specs.Broken.{role_of, is_time_token, preceding_after_mark, preceding_by, preceding_after, preceding_from, time_or, time_follows, mark_or, mark_ahead, mark_before}
use Rattle.abc_bars_notes.specs.Broken.{is_after_time, is_bad_mark, factors_of}
use Rattle.abc_bars_notes.specs.Acting.{hinders, IsTimeAt, IsMarkAt, IsFreeAt, AreFreeBetween, Acts, ActsBefore, ActsAfter, AreFactors, preceding_at}
use Rattle.abc_bars_notes.specs.TokenRole.{has_note}

-- what a role says of its token
abbrev Says : TokenKind → BrokenRole → Type 0
Says kind roles.Time = is_time_token kind ≡ true
Says kind (roles.Mark mark) = kind ≡ kinds.Broken mark
Says kind roles.Hindrance = (is_time_token kind ≡ false) × (hinders kind ≡ true)
Says kind roles.Silent = (is_time_token kind ≡ false) × (hinders kind ≡ false)

chord_says : (chord : Chord) (b : Bool) → has_note chord.parts ≡ b → Says (kinds.Chord chord) (if b then roles.Time else roles.Silent)
chord_says chord true e = e
chord_says chord false e = (e, refl)

says : (kind : TokenKind) → Says kind (role_of kind)
says (kinds.Note note) = refl
says (kinds.Rest value) = refl
says (kinds.Chord chord) = chord_says chord (has_note chord.parts) refl
says (kinds.Broken mark) = refl
says _ = (refl, refl)

time_by : (kind : TokenKind) (role : BrokenRole) → Says kind role → is_time_token kind ≡ true → role ≡ roles.Time
time_by kind roles.Time s e = refl
time_by kind (roles.Mark mark) s e = let no : is_time_token kind ≡ false = ap is_time_token s in cc
time_by kind _ s e = let no = s.0 in cc

time_role : (kind : TokenKind) → is_time_token kind ≡ true → role_of kind ≡ roles.Time
time_role kind e = time_by kind (role_of kind) (says kind) e

free_by : (kind : TokenKind) (role : BrokenRole) → Says kind role → is_time_token kind ≡ false → hinders kind ≡ false → role ≡ roles.Silent
free_by kind roles.Time s e f = cc
free_by kind (roles.Mark mark) s e f = let yes : hinders kind ≡ true = ap hinders s in cc
free_by kind roles.Hindrance s e f = let yes = s.1 in cc
free_by kind roles.Silent s e f = refl

-- neither a time token nor a hindrance
abbrev IsFree : TokenKind → Type 0
IsFree kind = (is_time_token kind ≡ false) × (hinders kind ≡ false)

free_role : (kind : TokenKind) → IsFree kind → role_of kind ≡ roles.Silent
free_role kind h = free_by kind (role_of kind) (says kind) h.0 h.1

-- the first of what matters is a time token
record IsFirstTime (cell : List (Spanned TokenKind)) : Type 0 where
  place : ℕ
  is : IsTimeAt cell place
  free : (j : ℕ) → j < place → IsFreeAt cell j

-- the first of what matters is this mark, and a time token the second
record IsFirstMark (cell : List (Spanned TokenKind)) (mark : BrokenRhythm) : Type 0 where
  place : ℕ
  second : ℕ
  is : IsMarkAt cell place mark
  free : (j : ℕ) → j < place → IsFreeAt cell j
  order : place < second
  time : IsTimeAt cell second
  between : AreFreeBetween cell place second

free_cons : (token : Spanned TokenKind) (cell : List (Spanned TokenKind)) (place : ℕ) → IsFree token.kind
    → ((j : ℕ) → j < place → IsFreeAt cell j) → (j : ℕ) → j < suc place → IsFreeAt (token ∷ cell) j
free_cons token cell place here free zero h = here
free_cons token cell place here free (suc j) h = free j (omega arith)

between_cons : (token : Spanned TokenKind) (cell : List (Spanned TokenKind)) (low high : ℕ)
    → AreFreeBetween cell low high → AreFreeBetween (token ∷ cell) (suc low) (suc high)
between_cons token cell low high free zero from to = absurd (omega arith)
between_cons token cell low high free (suc j) from to = free j (omega arith) (omega arith)

first_cons : (token : Spanned TokenKind) (cell : List (Spanned TokenKind)) (high : ℕ)
    → ((j : ℕ) → j < high → IsFreeAt cell j) → AreFreeBetween (token ∷ cell) 0 (suc high)
first_cons token cell high free zero from to = absurd (omega arith)
first_cons token cell high free (suc j) from to = free j (omega arith)

-- the first that matters by the role of the first
time_here : (token : Spanned TokenKind) (cell : List (Spanned TokenKind)) (role : BrokenRole) → Says token.kind role
    → (time_follows cell ≡ true → IsFirstTime cell) → time_or role (time_follows cell) ≡ true → IsFirstTime (token ∷ cell)
time_here token cell roles.Time s rec e = record { place = 0; is = s; free = λ j h. absurd (omega arith) }
time_here token cell roles.Silent s rec e =
    let first = rec e in
    record { place = suc first.place; is = first.is; free = free_cons token cell first.place s first.free }
time_here token cell _ s rec e = cc

time_first : (cell : List (Spanned TokenKind)) → time_follows cell ≡ true → IsFirstTime cell
time_first [] e = cc
time_first (token ∷ cell) e = time_here token cell (role_of token.kind) (says token.kind) (time_first cell) e

time_is : (cell : List (Spanned TokenKind)) (place : ℕ) → IsTimeAt cell place → ((j : ℕ) → j < place → IsFreeAt cell j) → time_follows cell ≡ true
time_is [] place h free = absurd h
time_is (token ∷ cell) zero h free = ap (λ role. time_or role (time_follows cell)) (time_role token.kind h)
time_is (token ∷ cell) (suc place) h free =
    ap (λ role. time_or role (time_follows cell)) (free_role token.kind (free 0 (omega arith)))
    ∙ time_is cell place h (λ j below. free (suc j) (omega arith))

mark_by : (token : Spanned TokenKind) (cell : List (Spanned TokenKind)) (mark other : BrokenRhythm) (follows : Bool) → time_follows cell ≡ follows
    → token.kind ≡ kinds.Broken other → (if follows then Some other else None) ≡ Some mark → IsFirstMark (token ∷ cell) mark
mark_by token cell mark other true is s e =
    let same : other ≡ mark = cc in
    let first = time_first cell is in
    record {
      place = 0;
      second = suc first.place;
      is = s ∙ ap kinds.Broken same;
      free = λ j h. absurd (omega arith);
      order = omega arith;
      time = first.is;
      between = first_cons token cell first.place first.free;
    }
mark_by token cell mark other false is s e = cc

mark_here : (token : Spanned TokenKind) (cell : List (Spanned TokenKind)) (mark : BrokenRhythm) (role : BrokenRole) → Says token.kind role
    → (mark_ahead cell ≡ Some mark → IsFirstMark cell mark) → mark_or role (time_follows cell) (mark_ahead cell) ≡ Some mark → IsFirstMark (token ∷ cell) mark
mark_here token cell mark (roles.Mark other) s rec e = mark_by token cell mark other (time_follows cell) refl s e
mark_here token cell mark roles.Silent s rec e =
    let first = rec e in
    let order : first.place < first.second = first.order in
    record {
      place = suc first.place;
      second = suc first.second;
      is = first.is;
      free = free_cons token cell first.place s first.free;
      order = omega arith;
      time = first.time;
      between = between_cons token cell first.place first.second first.between;
    }
mark_here token cell mark _ s rec e = cc

mark_first : (cell : List (Spanned TokenKind)) (mark : BrokenRhythm) → mark_ahead cell ≡ Some mark → IsFirstMark cell mark
mark_first [] mark e = cc
mark_first (token ∷ cell) mark e = mark_here token cell mark (role_of token.kind) (says token.kind) (mark_first cell mark) e

mark_is : (cell : List (Spanned TokenKind)) (mark : BrokenRhythm) (place second : ℕ) → IsMarkAt cell place mark → ((j : ℕ) → j < place → IsFreeAt cell j)
    → place < second → IsTimeAt cell second → AreFreeBetween cell place second → mark_ahead cell ≡ Some mark
mark_is [] mark place second h free order time between = absurd h
mark_is (token ∷ cell) mark place zero h free order time between = absurd (omega arith)
mark_is (token ∷ cell) mark zero (suc second) h free order time between =
    ap (λ kind. mark_or (role_of kind) (time_follows cell) (mark_ahead cell)) h
    ∙ ap (λ b. if b then Some mark else None) (time_is cell second time (λ j below. between (suc j) (omega arith) (omega arith)))
mark_is (token ∷ cell) mark (suc place) (suc second) h free order time between =
    ap (λ role. mark_or role (time_follows cell) (mark_ahead cell)) (free_role token.kind (free 0 (omega arith)))
    ∙ mark_is cell mark place second h (λ j below. free (suc j) (omega arith)) (omega arith) time
    (λ j low high. between (suc j) (omega arith) (omega arith))

-- the token at a place of a cell
record Found (cell : List (Spanned TokenKind)) (place : ℕ) : Type 0 where
  token : Spanned TokenKind
  is : slice_get cell place ≡ Some token

found : (cell : List (Spanned TokenKind)) (place : ℕ) → place < length cell → Found cell place
found [] place h = absurd (omega arith)
found (token ∷ cell) zero h = record { token = token; is = refl }
found (token ∷ cell) (suc place) h = let below = found cell place (omega arith) in record { token = below.token; is = below.is }

-- what holds of the token there
there : (o : Option (Spanned TokenKind)) (P : Spanned TokenKind → Type 0) (token : Spanned TokenKind) → o ≡ Some token → IsSomeAnd o P → P token
there o P token e h = let Q : Option (Spanned TokenKind) → Type 0 = λ p. IsSomeAnd p P in subst Q e h

back : (o : Option (Spanned TokenKind)) (P : Spanned TokenKind → Type 0) (token : Spanned TokenKind) → o ≡ Some token → P token → IsSomeAnd o P
back o P token e h = let Q : Option (Spanned TokenKind) → Type 0 = λ p. IsSomeAnd p P in subst Q (sym e) h

-- An index with an item is inside the list.
within : (cell : List (Spanned TokenKind)) (place : ℕ) (P : Spanned TokenKind → Type 0) → IsSomeAnd (slice_get cell place) P → place < length cell
within [] place P h = absurd h
within (token ∷ cell) zero P h = omega arith
within (token ∷ cell) (suc place) P h = let below = within cell place P h in omega arith

step : (preceding : Preceding) (cell : List (Spanned TokenKind)) (place : ℕ) (token : Spanned TokenKind) → slice_get cell place ≡ Some token
    → preceding_from preceding (take (suc place) cell) ≡ preceding_after (preceding_from preceding (take place cell)) token.kind
step preceding [] place token e = cc
step preceding (first ∷ cell) zero token e = let same : first ≡ token = cc in ap (λ t. preceding_after preceding t.kind) same
step preceding (first ∷ cell) (suc place) token e = step (preceding_after preceding first.kind) cell place token e

-- the last of what matters before a place is a time token
record IsLastTime (cell : List (Spanned TokenKind)) (place : ℕ) : Type 0 where
  first : ℕ
  before : first < place
  is : IsTimeAt cell first
  free : AreFreeBetween cell first place

-- the last of what matters before a place is this mark, and a time token the last but one
record IsLastMark (cell : List (Spanned TokenKind)) (mark : BrokenRhythm) (place : ℕ) : Type 0 where
  first : ℕ
  sign : ℕ
  order : first < sign
  before : sign < place
  is : IsMarkAt cell sign mark
  time : IsTimeAt cell first
  between : AreFreeBetween cell first sign
  free : AreFreeBetween cell sign place

no_time : (preceding : Preceding) (mark : BrokenRhythm) → is_after_time (preceding_after_mark preceding mark) ≡ false
no_time precedings.TimeToken mark = refl
no_time _ mark = refl

free_more : (cell : List (Spanned TokenKind)) (low high : ℕ) → IsFreeAt cell high → AreFreeBetween cell low high → AreFreeBetween cell low (suc high)
free_more cell low high here free k from to = ⊎_elim
    (λ same. subst (λ j. IsFreeAt cell j) (sym same) here)
    (λ other. free k from (omega arith))
    (cases_eq k high)

last_time_here : (cell : List (Spanned TokenKind)) (place : ℕ) (token : Spanned TokenKind) (role : BrokenRole) → slice_get cell place ≡ Some token → Says token.kind role
    → (is_after_time (preceding_at cell place) ≡ true → IsLastTime cell place) → is_after_time (preceding_by (preceding_at cell place) role) ≡ true → IsLastTime cell (suc place)
last_time_here cell place token roles.Time is s rec e = record {
  first = place;
  before = omega arith;
  is = back _ (λ t. is_time_token t.kind ≡ true) token is s;
  free = λ k from to. absurd (omega arith);
}
last_time_here cell place token (roles.Mark mark) is s rec e = let no = no_time (preceding_at cell place) mark in cc
last_time_here cell place token roles.Hindrance is s rec e = cc
last_time_here cell place token roles.Silent is s rec e =
    let last = rec e in
    let before : last.first < place = last.before in
    record {
      first = last.first;
      before = omega arith;
      is = last.is;
      free = free_more cell last.first place (back _ (λ t. IsFree t.kind) token is s) last.free;
    }

last_time : (cell : List (Spanned TokenKind)) (place : ℕ) → place ≤ length cell → is_after_time (preceding_at cell place) ≡ true → IsLastTime cell place
last_time cell zero inside e = cc
last_time cell (suc place) inside e =
    let here = found cell place (omega arith) in
    last_time_here cell place here.token (role_of here.token.kind) here.is (says here.token.kind) (last_time cell place (omega arith))
    (sym (ap is_after_time (step precedings.Nothing cell place here.token here.is)) ∙ e)

last_time_is : (cell : List (Spanned TokenKind)) (place first : ℕ) → place ≤ length cell → first < place → IsTimeAt cell first → AreFreeBetween cell first place
    → is_after_time (preceding_at cell place) ≡ true
last_time_is cell zero first inside before h free = absurd (omega arith)
last_time_is cell (suc place) first inside before h free =
    let here = found cell place (omega arith) in
    ap is_after_time (step precedings.Nothing cell place here.token here.is)
    ∙ ⊎_elim
    (λ same.
    let now : IsTimeAt cell place = subst (λ j. IsTimeAt cell j) same h in
    ap (λ role. is_after_time (preceding_by (preceding_at cell place) role))
    (time_role here.token.kind (there _ (λ t. is_time_token t.kind ≡ true) here.token here.is now)))
    (λ other.
    let earlier : first < place = omega arith in
    ap (λ role. is_after_time (preceding_by (preceding_at cell place) role))
    (free_role here.token.kind (there _ (λ t. IsFree t.kind) here.token here.is (free place earlier (omega arith))))
    ∙ last_time_is cell place first (omega arith) earlier h (λ k from to. free k from (omega arith)))
    (cases_eq first place)

last_mark_by : (cell : List (Spanned TokenKind)) (mark other : BrokenRhythm) (place : ℕ) (token : Spanned TokenKind) (preceding : Preceding) → place ≤ length cell
    → preceding_at cell place ≡ preceding → slice_get cell place ≡ Some token → token.kind ≡ kinds.Broken other
    → mark_before (preceding_after_mark preceding other) ≡ Some mark → IsLastMark cell mark (suc place)
last_mark_by cell mark other place token precedings.TimeToken inside was is s e =
    let same : other ≡ mark = cc in
    let last = last_time cell place inside (ap is_after_time was) in
    record {
      first = last.first;
      sign = place;
      order = last.before;
      before = omega arith;
      is = back _ (λ t. t.kind ≡ kinds.Broken mark) token is (s ∙ ap kinds.Broken same);
      time = last.is;
      between = last.free;
      free = λ k from to. absurd (omega arith);
    }
last_mark_by cell mark other place token _ inside was is s e = cc

last_mark_here : (cell : List (Spanned TokenKind)) (mark : BrokenRhythm) (place : ℕ) (token : Spanned TokenKind) (role : BrokenRole) → place ≤ length cell
    → slice_get cell place ≡ Some token → Says token.kind role
    → (mark_before (preceding_at cell place) ≡ Some mark → IsLastMark cell mark place) → mark_before (preceding_by (preceding_at cell place) role) ≡ Some mark
    → IsLastMark cell mark (suc place)
last_mark_here cell mark place token (roles.Mark other) inside is s rec e =
    last_mark_by cell mark other place token (preceding_at cell place) inside refl is s e
last_mark_here cell mark place token roles.Silent inside is s rec e =
    let last = rec e in
    let before : last.sign < place = last.before in
    record {
      first = last.first;
      sign = last.sign;
      order = last.order;
      before = omega arith;
      is = last.is;
      time = last.time;
      between = last.between;
      free = free_more cell last.sign place (back _ (λ t. IsFree t.kind) token is s) last.free;
    }
last_mark_here cell mark place token _ inside is s rec e = cc

last_mark : (cell : List (Spanned TokenKind)) (mark : BrokenRhythm) (place : ℕ) → place ≤ length cell → mark_before (preceding_at cell place) ≡ Some mark → IsLastMark cell mark place
last_mark cell mark zero inside e = cc
last_mark cell mark (suc place) inside e =
    let here = found cell place (omega arith) in
    last_mark_here cell mark place here.token (role_of here.token.kind) (omega arith) here.is (says here.token.kind) (last_mark cell mark place (omega arith))
    (sym (ap mark_before (step precedings.Nothing cell place here.token here.is)) ∙ e)

preceding_time : (preceding : Preceding) (mark : BrokenRhythm) → is_after_time preceding ≡ true → mark_before (preceding_after_mark preceding mark) ≡ Some mark
preceding_time precedings.TimeToken mark e = refl
preceding_time _ mark e = cc

last_mark_is : (cell : List (Spanned TokenKind)) (mark : BrokenRhythm) (place first sign : ℕ) → place ≤ length cell → first < sign → sign < place
    → IsMarkAt cell sign mark → IsTimeAt cell first → AreFreeBetween cell first sign → AreFreeBetween cell sign place
    → mark_before (preceding_at cell place) ≡ Some mark
last_mark_is cell mark zero first sign inside order before h time between free = absurd (omega arith)
last_mark_is cell mark (suc place) first sign inside order before h time between free =
    let here = found cell place (omega arith) in
    ap mark_before (step precedings.Nothing cell place here.token here.is)
    ∙ ⊎_elim
    (λ same.
    let now : IsMarkAt cell place mark = subst (λ j. IsMarkAt cell j mark) same h in
    let at : first < place = omega arith in
    ap (λ kind. mark_before (preceding_by (preceding_at cell place) (role_of kind))) (there _ (λ t. t.kind ≡ kinds.Broken mark) here.token here.is now)
    ∙ preceding_time (preceding_at cell place) mark
    (last_time_is cell place first (omega arith) at time (λ k from to. between k from (omega arith))))
    (λ other.
    let earlier : sign < place = omega arith in
    ap (λ role. mark_before (preceding_by (preceding_at cell place) role))
    (free_role here.token.kind (there _ (λ t. IsFree t.kind) here.token here.is (free place earlier (omega arith))))
    ∙ last_mark_is cell mark place first sign (omega arith) order earlier h time between (λ k from to. free k from (omega arith)))
    (cases_eq sign place)

-- a place after some first ones
shift : (cell : List (Spanned TokenKind)) (n k : ℕ) → slice_get (drop n cell) k ≡ slice_get cell (n + k)
shift cell zero k = ap (slice_get cell) (let e : k ≡ zero + k = omega arith in e)
shift [] (suc n) k = refl
shift (token ∷ cell) (suc n) k =
    shift cell n k ∙ ap (slice_get (token ∷ cell)) (let e : suc (n + k) ≡ suc n + k = omega arith in e)

-- the state at a place after some first ones, and back
shifted : (cell : List (Spanned TokenKind)) (P : Spanned TokenKind → Type 0) (n k at : ℕ) → at ≡ n + k → IsSomeAnd (slice_get (drop n cell) k) P → IsSomeAnd (slice_get cell at) P
shifted cell P n k at e h =
    let Q : Option (Spanned TokenKind) → Type 0 = λ o. IsSomeAnd o P in
    subst Q (shift cell n k ∙ ap (slice_get cell) (sym e)) h

unshifted : (cell : List (Spanned TokenKind)) (P : Spanned TokenKind → Type 0) (n k at : ℕ) → at ≡ n + k → IsSomeAnd (slice_get cell at) P → IsSomeAnd (slice_get (drop n cell) k) P
unshifted cell P n k at e h =
    let Q : Option (Spanned TokenKind) → Type 0 = λ o. IsSomeAnd o P in
    subst Q (sym (shift cell n k ∙ ap (slice_get cell) (sym e))) h

both : (a b : Bool) → not (a && b) ≡ false → (a ≡ true) × (b ≡ true)
both true true e = (refl, refl)
both true false e = cc
both false b e = cc

acts_from : (cell : List (Spanned TokenKind)) (place : ℕ) (mark : BrokenRhythm) → IsMarkAt cell place mark
    → is_bad_mark (preceding_at cell place) (drop (place + 1) cell) ≡ false → Acts cell mark place
acts_from cell place mark h e =
    let inside : place < length cell = within cell place (λ t. t.kind ≡ kinds.Broken mark) h in
    let parts = both (is_after_time (preceding_at cell place)) (time_follows (drop (place + 1) cell)) e in
    let last = last_time cell place (omega arith) parts.0 in
    let next = time_first (drop (place + 1) cell) parts.1 in
    record {
      first = last.first;
      second = (place + 1) + next.place;
      acting = record {
        mark_is = h;
        first_is = last.is;
        second_is = shifted cell (λ t. is_time_token t.kind ≡ true) (place + 1) next.place ((place + 1) + next.place) refl next.is;
        before = last.before;
        following = omega arith;
        free_before = last.free;
        free_after = λ k from to.
            shifted cell (λ t. IsFree t.kind) (place + 1) (k - (place + 1)) k (omega arith) (next.free (k - (place + 1)) (omega arith));
      };
    }

acts_to : (cell : List (Spanned TokenKind)) (place : ℕ) (mark : BrokenRhythm) → Acts cell mark place
    → is_bad_mark (preceding_at cell place) (drop (place + 1) cell) ≡ false
acts_to cell place mark acts =
    let a = acts.acting in
    let before : acts.first < place = a.before in
    let following : place < acts.second = a.following in
    let inside : place < length cell = within cell place (λ t. t.kind ≡ kinds.Broken mark) a.mark_is in
    let last : is_after_time (preceding_at cell place) ≡ true = last_time_is cell place acts.first (omega arith) before a.first_is a.free_before in
    let next : time_follows (drop (place + 1) cell) ≡ true =
    time_is (drop (place + 1) cell) (acts.second - (place + 1))
    (unshifted cell (λ t. is_time_token t.kind ≡ true) (place + 1) (acts.second - (place + 1)) acts.second (omega arith) a.second_is)
    (λ j below. unshifted cell (λ t. IsFree t.kind) (place + 1) j ((place + 1) + j) refl (a.free_after ((place + 1) + j) (omega arith) (omega arith))) in
    λ i. not (last i && next i)

pub marks_act : (cell : List (Spanned TokenKind)) (place : ℕ) (mark : BrokenRhythm) → IsMarkAt cell place mark
    → (is_bad_mark (preceding_at cell place) (drop (place + 1) cell) ≡ false) ↔ Acts cell mark place
marks_act cell place mark h = (acts_from cell place mark h, acts_to cell place mark)

pub before_from : (cell : List (Spanned TokenKind)) (place : ℕ) (mark : BrokenRhythm) → IsTimeAt cell place → mark_before (preceding_at cell place) ≡ Some mark → ActsBefore cell mark place
before_from cell place mark h e =
    let inside : place < length cell = within cell place (λ t. is_time_token t.kind ≡ true) h in
    let last = last_mark cell mark place (omega arith) e in
    record {
      first = last.first;
      place = last.sign;
      acting = record {
        mark_is = last.is;
        first_is = last.time;
        second_is = h;
        before = last.order;
        following = last.before;
        free_before = last.between;
        free_after = last.free;
      };
    }

pub before_to : (cell : List (Spanned TokenKind)) (place : ℕ) (mark : BrokenRhythm) → ActsBefore cell mark place → mark_before (preceding_at cell place) ≡ Some mark
before_to cell place mark acts =
    let a = acts.acting in
    let inside : place < length cell = within cell place (λ t. is_time_token t.kind ≡ true) a.second_is in
    last_mark_is cell mark place acts.first acts.place (omega arith) a.before a.following a.mark_is a.first_is a.free_before a.free_after

pub after_of : (cell : List (Spanned TokenKind)) (place : ℕ) (mark : BrokenRhythm) → IsTimeAt cell place → mark_ahead (drop (place + 1) cell) ≡ Some mark → ActsAfter cell mark place
after_of cell place mark h e =
    let next = mark_first (drop (place + 1) cell) mark e in
    let order : next.place < next.second = next.order in
    record {
      place = (place + 1) + next.place;
      second = (place + 1) + next.second;
      acting = record {
        mark_is = shifted cell (λ t. t.kind ≡ kinds.Broken mark) (place + 1) next.place ((place + 1) + next.place) refl next.is;
        first_is = h;
        second_is = shifted cell (λ t. is_time_token t.kind ≡ true) (place + 1) next.second ((place + 1) + next.second) refl next.time;
        before = omega arith;
        following = omega arith;
        free_before = λ k from to.
            shifted cell (λ t. IsFree t.kind) (place + 1) (k - (place + 1)) k (omega arith) (next.free (k - (place + 1)) (omega arith));
        free_after = λ k from to.
            shifted cell (λ t. IsFree t.kind) (place + 1) (k - (place + 1)) k (omega arith) (next.between (k - (place + 1)) (omega arith) (omega arith));
      };
    }

pub after_to : (cell : List (Spanned TokenKind)) (place : ℕ) (mark : BrokenRhythm) → ActsAfter cell mark place → mark_ahead (drop (place + 1) cell) ≡ Some mark
after_to cell place mark acts =
    let a = acts.acting in
    let before : place < acts.place = a.before in
    let following : acts.place < acts.second = a.following in
    mark_is (drop (place + 1) cell) mark (acts.place - (place + 1)) (acts.second - (place + 1))
    (unshifted cell (λ t. t.kind ≡ kinds.Broken mark) (place + 1) (acts.place - (place + 1)) acts.place (omega arith) a.mark_is)
    (λ j below. unshifted cell (λ t. IsFree t.kind) (place + 1) j ((place + 1) + j) refl (a.free_before ((place + 1) + j) (omega arith) (omega arith)))
    (omega arith)
    (unshifted cell (λ t. is_time_token t.kind ≡ true) (place + 1) (acts.second - (place + 1)) acts.second (omega arith) a.second_is)
    (λ j low high. unshifted cell (λ t. IsFree t.kind) (place + 1) j ((place + 1) + j) refl (a.free_after ((place + 1) + j) (omega arith) (omega arith)))

pub factors_act : (cell : List (Spanned TokenKind)) (place : ℕ) → IsTimeAt cell place
    → AreFactors cell place (factors_of (preceding_at cell place) (drop (place + 1) cell))
factors_act cell place h = record {
  before = mark_before (preceding_at cell place);
  following = mark_ahead (drop (place + 1) cell);
  before_is = λ mark. (before_from cell place mark h, before_to cell place mark);
  after_is = λ mark. (after_of cell place mark h, after_to cell place mark);
  factors_are = refl;
}
