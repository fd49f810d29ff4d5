-- What the walk over time tokens finds is what the relation says.
use Rattle.std.proofs.Common.{◌≡◌, ◌<◌, ◌≤◌, ℕ, zero, suc, ◌+◌, ◌==◌, nat_lt, Bool, true, false, cond, List, [], ◌∷◌, ◌++◌, length, take, Option}
use Rattle.std.proofs.Common.{Some, None, refl, sym, ap, subst, ◌∙◌, arith, append_assoc, eq-eqb, length-append, lt-ltb}
use Rattle.std.specs.Prelude.{◌&&◌, slice_get}
use Rattle.std.proofs.lemmas.Bool.{and_parts, eqb-true, ltb-true, ltb-false}
use Rattle.std.proofs.Math.Seq.{take-append_seam}
use Rattle.abc_bars_items.specs.declared.item.Tone.{Tone}
use Rattle.abc_voices_score.specs.declared.score.Sounding.{Sounding}
use Rattle.abc_voices.specs.Ties.{TimeToken, has_key, tones_with, tied_with, tone_at, joined_with, end_by, chain_end, chain_note, chain_notes, tie_chains}
use Rattle.abc_voices.specs.Chains.{IsJoined, IsChain, length_if, end_of_chain, IsBegun, AreBegun, AreHeard, HearsChains, HearsNoOthers, silent, goes_on, begins}

-- counts of more tones
move_count : (b : Bool) (p r : ℕ) → p + cond b (suc r) r ≡ cond b (suc p) p + r
move_count true p r = omega arith
move_count false p r = omega arith

key_of_is : (key : ℕ) (tone : Tone) → has_key key tone.key ≡ true → tone.key ≡ Some key
key_of_is key tone is = by tone.key refl is
  where
    by : (own : Option ℕ) → tone.key ≡ own → has_key key own ≡ true → tone.key ≡ Some key
    by None same none = absurd (cc)
    by (Some own) same equal = same ∙ ap Some (eqb-true own key equal)

is_of_key : (key : ℕ) (tone : Tone) → tone.key ≡ Some key → has_key key tone.key ≡ true
is_of_key key tone same = ap (has_key key) same ∙ eq-eqb key key refl

-- the place of a tone of a key
record Found (key number : ℕ) (past tones : List Tone) (found : Tone × ℕ) : Type 0 where
  place : ℕ
  tone_is : slice_get tones place ≡ Some found.0
  is : has_key key found.0.key ≡ true
  in_turn : tones_with key past + tones_with key (take place tones) ≡ number
  tied : found.1 ≡ tied_with key past + tied_with key (take place tones)

tone_found : (key number : ℕ) (past tones : List Tone) (found : Tone × ℕ) → tone_at key number past tones ≡ Some found → Found key number past tones found
tone_found key number past [] found none = absurd (cc)
tone_found key number past (tone ∷ tones) found there =
    by (tone_found key number (tone ∷ past) tones found) (has_key key tone.key && (tones_with key past == number)) refl there
  where
    by : (tone_at key number (tone ∷ past) tones ≡ Some found → Found key number (tone ∷ past) tones found)
        → (b : Bool) → (has_key key tone.key && (tones_with key past == number)) ≡ b
        → cond b (Some (tone, tied_with key past)) (tone_at key number (tone ∷ past) tones) ≡ Some found → Found key number past (tone ∷ tones) found
    by again true here same =
        let both = and_parts (has_key key tone.key) (tones_with key past == number) here in
        let is_it : (tone, tied_with key past) ≡ found = cc in
        let first : tone ≡ found.0 = ap (λ (x : Tone × ℕ). x.0) is_it in
        let second : tied_with key past ≡ found.1 = ap (λ (x : Tone × ℕ). x.1) is_it in
        let count = eqb-true (tones_with key past) number both.1 in
        record {
          place = 0;
          tone_is = ap Some first;
          is = subst (λ (t : Tone). has_key key t.key ≡ true) first both.0;
          in_turn = omega (arith, count);
          tied = omega (arith, second);
        }
    by again false here same =
        let rest = again same in
        let b = has_key key tone.key in
        let c = tone.tied && has_key key tone.key in
        record {
          place = suc rest.place;
          tone_is = rest.tone_is;
          is = rest.is;
          in_turn = move_count b (tones_with key past) (tones_with key (take rest.place tones)) ∙ rest.in_turn;
          tied = rest.tied ∙ sym (move_count c (tied_with key past) (tied_with key (take rest.place tones)));
        }

first_there : {A : Type 0} (b : Bool) (x : A) (other : Option A) → b ≡ true → cond b (Some x) other ≡ None → ⊥
first_there true x other is none = cc
first_there false x other is none = cc

not_first : {A : Type 0} (b : Bool) (x : A) (other : Option A) → cond b (Some x) other ≡ None → other ≡ None
not_first true x other none = absurd (cc)
not_first false x other none = none

none_there : (key number : ℕ) (past tones : List Tone) → tone_at key number past tones ≡ None → (place : ℕ) (other : Tone) → slice_get tones place ≡ Some other
    → has_key key other.key ≡ true → tones_with key past + tones_with key (take place tones) ≡ number → ⊥
none_there key number past [] none place other tone_is is count = cc
none_there key number past (tone ∷ tones) none zero other tone_is is count =
    let same : tone ≡ other = cc in
    let here : has_key key tone.key ≡ true = subst (λ (t : Tone). has_key key t.key ≡ true) (sym same) is in
    let reached : (tones_with key past == number) ≡ true = eq-eqb (tones_with key past) number (omega (arith, count)) in
    let found : (has_key key tone.key && (tones_with key past == number)) ≡ true = ap (λ b. b && (tones_with key past == number)) here ∙ reached in
    first_there (has_key key tone.key && (tones_with key past == number)) (tone, tied_with key past) (tone_at key number (tone ∷ past) tones) found none
none_there key number past (tone ∷ tones) none (suc place) other tone_is is count =
    none_there key number (tone ∷ past) tones
    (not_first (has_key key tone.key && (tones_with key past == number)) (tone, tied_with key past) (tone_at key number (tone ∷ past) tones) none)
    place other tone_is is
    (sym (move_count (has_key key tone.key) (tones_with key past) (tones_with key (take place tones))) ∙ count)

-- the tone that one is joined with
record Follows (tones next : List Tone) (place key : ℕ) (found : Tone × ℕ) : Type 0 where
  other : ℕ
  joined : IsJoined tones next place other
  tone_is : slice_get next other ≡ Some found.0
  own_key : found.0.key ≡ Some key
  tied : found.1 ≡ tied_with key (take other next)

joined_some : (tones next : List Tone) (place key : ℕ) (tone : Tone) → slice_get tones place ≡ Some tone → tone.key ≡ Some key
    → (found : Tone × ℕ) → joined_with tone key (tied_with key (take place tones)) next ≡ Some found → Follows tones next place key found
joined_some tones next place key tone tone_is own_key found same = by tone.tied refl same
  where
    by : (b : Bool) → tone.tied ≡ b → cond b (tone_at key (tied_with key (take place tones)) [] next) None ≡ Some found → Follows tones next place key found
    by true tied there =
        let at = tone_found key (tied_with key (take place tones)) [] next found there in
        record {
          other = at.place;
          joined = record {
            tone = tone;
            tone_is = tone_is;
            tied = tied;
            follower = found.0;
            follows = at.tone_is;
            key = key;
            own_key = own_key;
            same_key = key_of_is key found.0 at.is;
            in_turn = omega (arith, at.in_turn);
          };
          tone_is = at.tone_is;
          own_key = key_of_is key found.0 at.is;
          tied = omega (arith, at.tied);
        }
    by false tied none = absurd (cc)

some_same : {A : Type 0} (x y : A) → Some x ≡ Some y → x ≡ y
some_same x y same = cc

joined_none : (tones next : List Tone) (place key : ℕ) (tone : Tone) → slice_get tones place ≡ Some tone → tone.key ≡ Some key
    → joined_with tone key (tied_with key (take place tones)) next ≡ None → (other : ℕ) → IsJoined tones next place other → ⊥
joined_none tones next place key tone tone_is own_key none other is =
    let same : tone ≡ is.tone = some_same tone is.tone (sym tone_is ∙ is.tone_is) in
    let keys : key ≡ is.key = some_same key is.key (sym own_key ∙ ap (λ (t : Tone). t.key) same ∙ is.own_key) in
    let tied : tone.tied ≡ true = ap (λ (t : Tone). t.tied) same ∙ is.tied in
    let number : ℕ = tied_with key (take place tones) in
    let missing : tone_at key number [] next ≡ None = sym (ap (λ b. cond b (tone_at key number [] next) None) tied) ∙ none in
    let follows_key : is.follower.key ≡ Some key = is.same_key ∙ ap Some (sym keys) in
    let turn : tied_with key (take place tones) ≡ tones_with key (take other next) = subst (λ (k : ℕ). tied_with k (take place tones) ≡ tones_with k (take other next)) (sym keys) is.in_turn in
    none_there key number [] next missing other is.follower is.follows (is_of_key key is.follower follows_key) (omega (arith, turn))

-- the rest of a chain
record Goes (tokens : List TimeToken) (place end : ℕ) : Type 0 where
  others : List ℕ
  chain : IsChain tokens place others
  ends : end_of_chain tokens place others ≡ end

chain_goes : (token : TimeToken) (tokens : List TimeToken) (place key : ℕ) (tone : Tone) (number : ℕ) → slice_get token.tones place ≡ Some tone → tone.key ≡ Some key
    → number ≡ tied_with key (take place token.tones) → Goes (token ∷ tokens) place (chain_end token.at tone key number tokens)
chain_goes token [] place key tone number tone_is own_key same = record {
  others = [];
  chain = λ other is. let no : None ≡ Some is.follower = is.follows in cc;
  ends = ap (λ o. token.at + length_if o) tone_is;
}
chain_goes token (next ∷ tokens) place key tone number tone_is own_key same =
    subst (λ (n : ℕ). Goes (token ∷ next ∷ tokens) place (chain_end token.at tone key n (next ∷ tokens))) (sym same)
    (by (chain_goes next tokens) (joined_with tone key (tied_with key (take place token.tones)) next.tones) refl)
  where
    by : ((p k : ℕ) (t : Tone) (n : ℕ) → slice_get next.tones p ≡ Some t → t.key ≡ Some k → n ≡ tied_with k (take p next.tones) → Goes (next ∷ tokens) p (chain_end next.at t k n tokens))
        → (found : Option (Tone × ℕ)) → joined_with tone key (tied_with key (take place token.tones)) next.tones ≡ found
        → Goes (token ∷ next ∷ tokens) place (end_by (token.at + tone.length.0) (λ other. chain_end next.at other.0 key other.1 tokens) found)
    by again None none = record {
      others = [];
      chain = joined_none token.tones next.tones place key tone tone_is own_key none;
      ends = ap (λ o. token.at + length_if o) tone_is;
    }
    by again (Some found) there =
        let follows = joined_some token.tones next.tones place key tone tone_is own_key found there in
        let rest = again follows.other key found.0 found.1 follows.tone_is follows.own_key follows.tied in
        record { others = follows.other ∷ rest.others; chain = (follows.joined, rest.chain); ends = rest.ends }

-- the tied tone of a key at an index among those of the key
record Tied (key number : ℕ) (tones : List Tone) : Type 0 where
  place : ℕ
  tone : Tone
  tone_is : slice_get tones place ≡ Some tone
  tied : tone.tied ≡ true
  is : has_key key tone.key ≡ true
  in_turn : tied_with key (take place tones) ≡ number

tied_there : (key number : ℕ) (tones : List Tone) → number < tied_with key tones → Tied key number tones
tied_there key number [] below = absurd (omega arith)
tied_there key number (tone ∷ tones) below = by (λ n. tied_there key n tones) (tone.tied && has_key key tone.key) refl number below
  where
    more : (b : Bool) → (tone.tied && has_key key tone.key) ≡ b → (m n : ℕ) → cond b (suc m) m ≡ n → Tied key m tones → Tied key n (tone ∷ tones)
    more b is m n same rest = record {
      place = suc rest.place;
      tone = rest.tone;
      tone_is = rest.tone_is;
      tied = rest.tied;
      is = rest.is;
      in_turn = ap (λ x. cond x (suc (tied_with key (take rest.place tones))) (tied_with key (take rest.place tones))) is ∙ ap (λ k. cond b (suc k) k) rest.in_turn ∙ same;
    }

    by : ((n : ℕ) → n < tied_with key tones → Tied key n tones) → (b : Bool) → (tone.tied && has_key key tone.key) ≡ b → (n : ℕ)
        → n < cond b (suc (tied_with key tones)) (tied_with key tones) → Tied key n (tone ∷ tones)
    by again true here zero few =
        let both = and_parts tone.tied (has_key key tone.key) here in
        record { place = 0; tone = tone; tone_is = refl; tied = both.0; is = both.1; in_turn = refl }
    by again true here (suc n) few = more true here n (suc n) refl (again n (omega arith))
    by again false here n few = more false here n n refl (again n few)

both_more : (b : Bool) (m n : ℕ) → m < n → cond b (suc m) m < cond b (suc n) n
both_more true m n less = omega (arith, less)
both_more false m n less = less

tied_below : (key : ℕ) (tones : List Tone) (place : ℕ) (tone : Tone) → slice_get tones place ≡ Some tone → (tone.tied && has_key key tone.key) ≡ true
    → tied_with key (take place tones) < tied_with key tones
tied_below key [] place tone tone_is is = absurd (cc)
tied_below key (first ∷ tones) zero tone tone_is is =
    let same : first ≡ tone = cc in
    let here : (first.tied && has_key key first.key) ≡ true = subst (λ (t : Tone). (t.tied && has_key key t.key) ≡ true) (sym same) is in
    let whole : cond (first.tied && has_key key first.key) (suc (tied_with key tones)) (tied_with key tones) ≡ suc (tied_with key tones) =
    ap (λ b. cond b (suc (tied_with key tones)) (tied_with key tones)) here in
    omega (arith, whole)
tied_below key (first ∷ tones) (suc place) tone tone_is is =
    both_more (first.tied && has_key key first.key) (tied_with key (take place tones)) (tied_with key tones) (tied_below key tones place tone tone_is is)

-- some tones as often as others, by their keys
record Fronts (past front : List Tone) : Type 0 where
  tones : (key : ℕ) → tones_with key past ≡ tones_with key front
  tied : (key : ℕ) → tied_with key past ≡ tied_with key front

-- a tone of a time token after another
module _ (previous : List Tone) (token : TimeToken) (tokens : List TimeToken) where
  abbrev all : List TimeToken
  all = token ∷ tokens

  joins : (place key : ℕ) (tone : Tone) → slice_get token.tones place ≡ Some tone → tone.key ≡ Some key → tones_with key (take place token.tones) < tied_with key previous
      → (before : ℕ) × IsJoined previous token.tones before place
  joins place key tone tone_is own_key below =
      let there = tied_there key (tones_with key (take place token.tones)) previous below in (
        there.place,
        record {
          tone = there.tone;
          tone_is = there.tone_is;
          tied = there.tied;
          follower = tone;
          follows = tone_is;
          key = key;
          own_key = key_of_is key there.tone there.is;
          same_key = own_key;
          in_turn = there.in_turn;
        },
      )

  joins_none : (place key : ℕ) (tone : Tone) → slice_get token.tones place ≡ Some tone → tone.key ≡ Some key → tied_with key previous ≤ tones_with key (take place token.tones)
      → (before : ℕ) → IsJoined previous token.tones before place → ⊥
  joins_none place key tone tone_is own_key above before is =
      let same : tone ≡ is.follower = some_same tone is.follower (sym tone_is ∙ is.follows) in
      let keys : is.key ≡ key = some_same is.key key (sym is.same_key ∙ ap (λ (t : Tone). t.key) (sym same) ∙ own_key) in
      let own : is.tone.key ≡ Some key = is.own_key ∙ ap Some keys in
      let both : (is.tone.tied && has_key key is.tone.key) ≡ true = ap (λ b. b && has_key key is.tone.key) is.tied ∙ is_of_key key is.tone own in
      let turn : tied_with key (take before previous) ≡ tones_with key (take place token.tones) =
      subst (λ (k : ℕ). tied_with k (take before previous) ≡ tones_with k (take place token.tones)) keys is.in_turn in
      let below = tied_below key previous before is.tone is.tone_is both in
      omega (arith, above, turn, below)

  one_begun : (place : ℕ) (past : List Tone) (tone : Tone) → slice_get token.tones place ≡ Some tone → Fronts past (take place token.tones)
      → IsBegun previous all place (chain_note (λ key. tied_with key previous) token.at past tone tokens tone.key)
  one_begun place past tone tone_is same = by tone.key refl
    where
      by : (own : Option ℕ) → tone.key ≡ own → IsBegun previous all place (chain_note (λ key. tied_with key previous) token.at past tone tokens own)
      by None own_key = silent tone tone_is own_key refl
      by (Some key) own_key = each (nat_lt (tones_with key past) (tied_with key previous)) refl
        where
          goes : Goes all place (chain_end token.at tone key (tied_with key past) tokens)
          goes = chain_goes token tokens place key tone (tied_with key past) tone_is own_key (same.tied key)

          note : Sounding
          note = record { key = key; on = record { 0 = token.at }; off = record { 0 = chain_end token.at tone key (tied_with key past) tokens }; velocity = tone.velocity }

          each : (b : Bool) → nat_lt (tones_with key past) (tied_with key previous) ≡ b → IsBegun previous all place (cond b [] (note ∷ []))
          each true below =
              let joined = joins place key tone tone_is own_key (omega (arith, same.tones key, ltb-true (tones_with key past) (tied_with key previous) below)) in
              goes_on joined.0 joined.1 refl
          each false above =
              begins note
              (joins_none place key tone tone_is own_key (omega (arith, same.tones key, ltb-false (tones_with key past) (tied_with key previous) above)))
              (record { tone = tone; tone_is = tone_is; key = own_key; others = goes.others; chain = goes.chain; on = refl; off = sym goes.ends; velocity = refl }) refl

-- counts of tones with one more after them
swapped : (b c : Bool) (n : ℕ) → cond c (suc (cond b (suc n) n)) (cond b (suc n) n) ≡ cond b (suc (cond c (suc n) n)) (cond c (suc n) n)
swapped true true n = refl
swapped true false n = refl
swapped false true n = refl
swapped false false n = refl

tones_end : (key : ℕ) (front : List Tone) (tone : Tone)
    → tones_with key (front ++ tone ∷ []) ≡ cond (has_key key tone.key) (suc (tones_with key front)) (tones_with key front)
tones_end key [] tone = refl
tones_end key (first ∷ front) tone =
    ap (λ n. cond (has_key key first.key) (suc n) n) (tones_end key front tone)
    ∙ swapped (has_key key tone.key) (has_key key first.key) (tones_with key front)

tied_end : (key : ℕ) (front : List Tone) (tone : Tone)
    → tied_with key (front ++ tone ∷ []) ≡ cond (tone.tied && has_key key tone.key) (suc (tied_with key front)) (tied_with key front)
tied_end key [] tone = refl
tied_end key (first ∷ front) tone =
    ap (λ n. cond (first.tied && has_key key first.key) (suc n) n) (tied_end key front tone)
    ∙ swapped (tone.tied && has_key key tone.key) (first.tied && has_key key first.key) (tied_with key front)

fronts_more : (past front : List Tone) (tone : Tone) → Fronts past front → Fronts (tone ∷ past) (front ++ tone ∷ [])
fronts_more past front tone same = record {
  tones = λ key. ap (λ n. cond (has_key key tone.key) (suc n) n) (same.tones key) ∙ sym (tones_end key front tone);
  tied = λ key. ap (λ n. cond (tone.tied && has_key key tone.key) (suc n) n) (same.tied key) ∙ sym (tied_end key front tone);
}

after_front : (front : List Tone) (tone : Tone) (tones : List Tone) → slice_get (front ++ tone ∷ tones) (length front) ≡ Some tone
after_front [] tone tones = refl
after_front (first ∷ front) tone tones = after_front front tone tones

tones_begun : (previous : List Tone) (token : TimeToken) (tokens : List TimeToken) (place : ℕ) (past front tones : List Tone)
    → place ≡ length front → token.tones ≡ front ++ tones → Fronts past front
    → AreBegun previous (token ∷ tokens) place tones (chain_notes (λ key. tied_with key previous) token.at past tones tokens)
tones_begun previous token tokens place past front [] long whole same = refl
tones_begun previous token tokens place past front (tone ∷ tones) long whole same =
    let tone_is : slice_get token.tones place ≡ Some tone =
    (λ i. slice_get (whole i) (long i)) ∙ after_front front tone tones in
    let before : take place token.tones ≡ front = (λ i. take (long i) (whole i)) ∙ take-append_seam front (tone ∷ tones) in (
      chain_note (λ key. tied_with key previous) token.at past tone tokens tone.key,
      chain_notes (λ key. tied_with key previous) token.at (tone ∷ past) tones tokens,
      refl,
      one_begun previous token tokens place past tone tone_is (subst (Fronts past) (sym before) same),
      tones_begun previous token tokens (suc place) (tone ∷ past) (front ++ tone ∷ []) tones
          (omega (arith, long, length-append front (tone ∷ []))) (whole ∙ sym (append_assoc front (tone ∷ []) tones)) (fronts_more past front tone same),
    )

all_heard : (previous : List Tone) (tokens : List TimeToken) → AreHeard previous tokens (tie_chains (λ key. tied_with key previous) tokens)
all_heard previous [] = refl
all_heard previous (token ∷ tokens) = (
  tie_chains (λ key. tied_with key token.tones) tokens,
  chain_notes (λ key. tied_with key previous) token.at [] token.tones tokens,
  refl,
  all_heard token.tones tokens,
  tones_begun previous token tokens 0 [] [] token.tones refl refl (record { tones = λ key. refl; tied = λ key. refl }),
)

pub hears_chains : HearsChains
hears_chains tokens = all_heard [] tokens

-- no other notes are
same_count : (b : Bool) (m n : ℕ) → cond b (suc m) m ≡ cond b (suc n) n → m ≡ n
same_count true m n same = omega (arith, same)
same_count false m n same = same

one_more : (b : Bool) (m : ℕ) → b ≡ true → 0 ≡ cond b (suc m) m → ⊥
one_more true m is none = omega (arith, none)
one_more false m is none = cc

-- two tones of a key at one index among those of the key are one
same_place : (key : ℕ) (tones : List Tone) (a b : ℕ) (x y : Tone) → slice_get tones a ≡ Some x → slice_get tones b ≡ Some y
    → has_key key x.key ≡ true → has_key key y.key ≡ true → tones_with key (take a tones) ≡ tones_with key (take b tones) → a ≡ b
same_place key [] a b x y first second own other same = absurd (cc)
same_place key (tone ∷ tones) zero zero x y first second own other same = refl
same_place key (tone ∷ tones) zero (suc b) x y first second own other same =
    let is : tone ≡ x = some_same tone x first in
    absurd (one_more (has_key key tone.key) (tones_with key (take b tones)) (ap (λ (t : Tone). has_key key t.key) is ∙ own) same)
same_place key (tone ∷ tones) (suc a) zero x y first second own other same =
    let is : tone ≡ y = some_same tone y second in
    absurd (one_more (has_key key tone.key) (tones_with key (take a tones)) (ap (λ (t : Tone). has_key key t.key) is ∙ other) (sym same))
same_place key (tone ∷ tones) (suc a) (suc b) x y first second own other same =
    ap suc (same_place key tones a b x y first second own other (same_count (has_key key tone.key) (tones_with key (take a tones)) (tones_with key (take b tones)) same))

same_follower : (tones next : List Tone) (place a b : ℕ) → IsJoined tones next place a → IsJoined tones next place b → a ≡ b
same_follower tones next place a b first second =
    let tone : first.tone ≡ second.tone = some_same first.tone second.tone (sym first.tone_is ∙ second.tone_is) in
    let key : second.key ≡ first.key = some_same second.key first.key (sym second.own_key ∙ ap (λ (t : Tone). t.key) (sym tone) ∙ first.own_key) in
    let turn : tied_with first.key (take place tones) ≡ tones_with first.key (take b next) =
    subst (λ (k : ℕ). tied_with k (take place tones) ≡ tones_with k (take b next)) key second.in_turn in
    same_place first.key next a b first.follower second.follower first.follows second.follows
    (is_of_key first.key first.follower first.same_key) (is_of_key first.key second.follower (second.same_key ∙ ap Some key))
    (sym first.in_turn ∙ turn)

chain_is : (token : TimeToken) (tokens : List TimeToken) (place key : ℕ) (tone : Tone) (number : ℕ) → slice_get token.tones place ≡ Some tone → tone.key ≡ Some key
    → number ≡ tied_with key (take place token.tones) → (others : List ℕ) → IsChain (token ∷ tokens) place others
    → end_of_chain (token ∷ tokens) place others ≡ chain_end token.at tone key number tokens
chain_is token [] place key tone number tone_is own_key same [] chain = ap (λ o. token.at + length_if o) tone_is
chain_is token [] place key tone number tone_is own_key same (other ∷ others) chain =
    let none : None ≡ Some chain.0.follower = chain.0.follows in absurd (cc)
chain_is token (next ∷ tokens) place key tone number tone_is own_key same others chain =
    subst (λ (n : ℕ). end_of_chain (token ∷ next ∷ tokens) place others ≡ chain_end token.at tone key n (next ∷ tokens)) (sym same)
    (by (chain_is next tokens) (joined_with tone key (tied_with key (take place token.tones)) next.tones) refl others chain)
  where
    by : ((p k : ℕ) (t : Tone) (n : ℕ) → slice_get next.tones p ≡ Some t → t.key ≡ Some k → n ≡ tied_with k (take p next.tones)
        → (os : List ℕ) → IsChain (next ∷ tokens) p os → end_of_chain (next ∷ tokens) p os ≡ chain_end next.at t k n tokens)
        → (found : Option (Tone × ℕ)) → joined_with tone key (tied_with key (take place token.tones)) next.tones ≡ found
        → (os : List ℕ) → IsChain (token ∷ next ∷ tokens) place os
        → end_of_chain (token ∷ next ∷ tokens) place os ≡ end_by (token.at + tone.length.0) (λ other. chain_end next.at other.0 key other.1 tokens) found
    by again None none [] ends = ap (λ o. token.at + length_if o) tone_is
    by again None none (other ∷ os) goes = absurd (joined_none token.tones next.tones place key tone tone_is own_key none other goes.0)
    by again (Some found) there [] ends =
        let follows = joined_some token.tones next.tones place key tone tone_is own_key found there in
        absurd (ends follows.other follows.joined)
    by again (Some found) there (other ∷ os) goes =
        let follows = joined_some token.tones next.tones place key tone tone_is own_key found there in
        let one : follows.other ≡ other = same_follower token.tones next.tones place follows.other other follows.joined goes.0 in
        again other key found.0 found.1 (ap (slice_get next.tones) (sym one) ∙ follows.tone_is) follows.own_key
        (follows.tied ∙ ap (λ (n : ℕ). tied_with key (take n next.tones)) one) os goes.1

joined_below : (previous tones : List Tone) (before place key : ℕ) (tone : Tone) → slice_get tones place ≡ Some tone → tone.key ≡ Some key
    → IsJoined previous tones before place → tones_with key (take place tones) < tied_with key previous
joined_below previous tones before place key tone tone_is own_key is =
    let same : tone ≡ is.follower = some_same tone is.follower (sym tone_is ∙ is.follows) in
    let keys : is.key ≡ key = some_same is.key key (sym is.same_key ∙ ap (λ (t : Tone). t.key) (sym same) ∙ own_key) in
    let own : is.tone.key ≡ Some key = is.own_key ∙ ap Some keys in
    let both : (is.tone.tied && has_key key is.tone.key) ≡ true = ap (λ b. b && has_key key is.tone.key) is.tied ∙ is_of_key key is.tone own in
    let turn : tied_with key (take before previous) ≡ tones_with key (take place tones) = subst (λ (k : ℕ). tied_with k (take before previous) ≡ tones_with k (take place tones)) keys is.in_turn in
    let below = tied_below key previous before is.tone is.tone_is both in
    omega (arith, turn, below)

module _ (previous : List Tone) (token : TimeToken) (tokens : List TimeToken) where
  abbrev begun : List Tone → Tone → Option ℕ → List Sounding
  begun past tone key = chain_note (λ k. tied_with k previous) token.at past tone tokens key

  one_is : (place : ℕ) (past : List Tone) (tone : Tone) (own : List Sounding) → slice_get token.tones place ≡ Some tone → Fronts past (take place token.tones)
      → IsBegun previous (token ∷ tokens) place own → own ≡ begun past tone tone.key
  one_is place past tone own tone_is same (silent other there none is) =
      let one : other ≡ tone = some_same other tone (sym there ∙ tone_is) in
      is ∙ ap (begun past tone) (sym none ∙ ap (λ (t : Tone). t.key) one)
  one_is place past tone own tone_is same (goes_on before joined is) =
      let one : joined.follower ≡ tone = some_same joined.follower tone (sym joined.follows ∙ tone_is) in
      let key : tone.key ≡ Some joined.key = ap (λ (t : Tone). t.key) (sym one) ∙ joined.same_key in
      let few : tones_with joined.key past < tied_with joined.key previous =
      subst (λ (n : ℕ). n < tied_with joined.key previous) (sym (same.tones joined.key)) (joined_below previous token.tones before place joined.key tone tone_is key joined) in
      is ∙ sym (ap (begun past tone) key ∙ ap (λ b. cond b []
      (record {
        key = joined.key;
        on = record { 0 = token.at };
        off = record { 0 = chain_end token.at tone joined.key (tied_with joined.key past) tokens };
        velocity = tone.velocity;
      } ∷ [])) (lt-ltb (tones_with joined.key past) (tied_with joined.key previous) few))
  one_is place past tone own tone_is same (begins note none of is) =
      let one : of.tone ≡ tone = some_same of.tone tone (sym of.tone_is ∙ tone_is) in
      let key : tone.key ≡ Some note.key = ap (λ (t : Tone). t.key) (sym one) ∙ of.key in
      let ends : note.off.0 ≡ chain_end token.at tone note.key (tied_with note.key past) tokens =
      of.off ∙ chain_is token tokens place note.key tone (tied_with note.key past) tone_is key (same.tied note.key) of.others of.chain in
      let it : Sounding = record { key = note.key; on = record { 0 = token.at }; off = record { 0 = chain_end token.at tone note.key (tied_with note.key past) tokens }; velocity = tone.velocity } in
      let loud : note.velocity ≡ tone.velocity = of.velocity ∙ ap (λ (t : Tone). t.velocity) one in
      let equal : note ≡ it = λ i. record { key = note.key; on = record { 0 = of.on i }; off = record { 0 = ends i }; velocity = loud i } in
      is ∙ ap (λ (n : Sounding). n ∷ []) equal
      ∙ sym (ap (begun past tone) key ∙ ap (λ b. cond b [] (it ∷ [])) (each (nat_lt (tones_with note.key past) (tied_with note.key previous)) refl key))
    where
      each : (b : Bool) → nat_lt (tones_with note.key past) (tied_with note.key previous) ≡ b → tone.key ≡ Some note.key → b ≡ false
      each false above key = refl
      each true below key =
          let joined = joins previous token tokens place note.key tone tone_is key
          (subst (λ (n : ℕ). n < tied_with note.key previous) (same.tones note.key) (ltb-true (tones_with note.key past) (tied_with note.key previous) below)) in
          absurd (none joined.0 joined.1)

tones_are : (previous : List Tone) (token : TimeToken) (tokens : List TimeToken) (place : ℕ) (past front tones : List Tone) (notes : List Sounding)
    → place ≡ length front → token.tones ≡ front ++ tones → Fronts past front
    → AreBegun previous (token ∷ tokens) place tones notes → notes ≡ chain_notes (λ key. tied_with key previous) token.at past tones tokens
tones_are previous token tokens place past front [] notes long whole same none = none
tones_are previous token tokens place past front (tone ∷ tones) notes long whole same (own, others, parts, one, rest) =
    let tone_is : slice_get token.tones place ≡ Some tone =
    (λ i. slice_get (whole i) (long i)) ∙ after_front front tone tones in
    let before : take place token.tones ≡ front = (λ i. take (long i) (whole i)) ∙ take-append_seam front (tone ∷ tones) in
    let first = one_is previous token tokens place past tone own tone_is (subst (Fronts past) (sym before) same) one in
    let later = tones_are previous token tokens (suc place) (tone ∷ past) (front ++ tone ∷ []) tones others
    (omega (arith, long, length-append front (tone ∷ []))) (whole ∙ sym (append_assoc front (tone ∷ []) tones)) (fronts_more past front tone same) rest in
    parts ∙ (λ i. first i ++ later i)

all_are : (previous : List Tone) (tokens : List TimeToken) (notes : List Sounding) → AreHeard previous tokens notes → notes ≡ tie_chains (λ key. tied_with key previous) tokens
all_are previous [] notes none = none
all_are previous (token ∷ tokens) notes (later, own, parts, rest, one) =
    let first = all_are token.tones tokens later rest in
    let last = tones_are previous token tokens 0 [] [] token.tones own refl refl (record { tones = λ key. refl; tied = λ key. refl }) one in
    parts ∙ (λ i. first i ++ last i)

pub hears_no_others : HearsNoOthers
hears_no_others tokens notes are = all_are [] tokens notes are
