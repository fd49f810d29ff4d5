-- Owners, claims and titles, one tune after another.
use Rattle.std.proofs.Common.{◌≡◌, ℕ, ◌+◌, ◌-◌, ◌≤◌, List, [], ◌∷◌, ◌++◌, length, take, drop, Some, slice_get, option_map, sym}
use Rattle.std.proofs.Common.{ap, ◌∙◌, arith}
use Rattle.std.proofs.lemmas.List.{drop_all, drop-drop, take-append-drop, length-take-le, length-drop, drop-map, take-map}
use Rattle.std.proofs.lemmas.List.{map-append, length-map}
use Rattle.std.proofs.lemmas.Option.{slice_get-map}
use Rattle.abc_live_index.proofs.Lists.{drop_later, get_after, one_on, parts_same, take_next, take_same}
use Rattle.abc_live_index.specs.Outputs.{title_by, titles_of}
use Rattle.abc_live_index.specs.Owners.{Owners, claim_of, owners_with_claim, claims_of, owners_after}
use Rattle.abc_live_index.specs.declared.output.Output.{Output}
use Rattle.abc_tune_compiler.specs.declared.title.Title.{Title}

-- the owners after one tune more
pub owners_on : (all : List Output) (place : ℕ) (output : Output) (owners next whole : Owners) → slice_get all place ≡ Some output → next ≡ owners_with_claim owners (claim_of output) place
    → owners_after owners place (claims_of (drop place all)) ≡ whole → owners_after next (place + 1) (claims_of (drop (place + 1) all)) ≡ whole
owners_on all place output owners next whole here put so =
    ap (λ (o : Owners). owners_after o (place + 1) (claims_of (drop (place + 1) all))) put ∙ ap (λ (l : List Output). owners_after owners place (claims_of l)) (sym (one_on all place output here)) ∙ so

-- after the last tune they are all owners
pub owners_end : (all : List Output) (place : ℕ) (owners whole : Owners) → length all ≤ place → owners_after owners place (claims_of (drop place all)) ≡ whole → owners ≡ whole
owners_end all place owners whole following so = ap (λ (l : List Output). owners_after owners place (claims_of l)) (sym (drop_all place all following)) ∙ so

-- one claim more that stays
pub claims_on : (old new : List Output) (place : ℕ) → option_map claim_of (slice_get old place) ≡ option_map claim_of (slice_get new place)
    → take place (claims_of old) ≡ take place (claims_of new) → take (place + 1) (claims_of old) ≡ take (place + 1) (claims_of new)
claims_on old new place same so =
    take_same (claims_of old) (claims_of new) place (slice_get-map claim_of old place ∙ same ∙ sym (slice_get-map claim_of new place)) so

-- those before the stretch stay
pub claims_front : (old new : List Output) (front : ℕ) → take front new ≡ take front old → take front (claims_of old) ≡ take front (claims_of new)
claims_front old new front same = take-map claim_of front old ∙ ap claims_of (sym same) ∙ sym (take-map claim_of front new)

-- if those of the stretch do, all do
pub claims_end : (old new : List Output) (front came following place : ℕ) → front ≤ following → came ≡ following - front → drop (front + came) new ≡ drop following old → following ≤ place
    → take place (claims_of old) ≡ take place (claims_of new) → claims_of old ≡ claims_of new
claims_end old new front came following place order count rest past so =
    let there : front + came ≡ following = omega (arith, order, count) in
    let same : drop following (claims_of old) ≡ drop following (claims_of new) =
    drop-map claim_of following old ∙ ap claims_of (sym rest) ∙ ap (λ n. claims_of (drop n new)) there ∙ sym (drop-map claim_of following new) in
    parts_same (claims_of old) (claims_of new) place so (drop_later (claims_of old) (claims_of new) following place past same)

-- one title more
pub titles_on : (all : List Output) (from place : ℕ) (output : Output) (title : Title) (titles next : List Title) → from ≤ place
    → slice_get all place ≡ Some output → title ≡ title_by output → next ≡ titles ++ title ∷ []
    → titles ≡ titles_of (take (place - from) (drop from all)) → next ≡ titles_of (take (place + 1 - from) (drop from all))
titles_on all from place output title titles next order here is put so =
    let place_is : from + (place - from) ≡ place = omega (arith, order) in
    let more : place - from + 1 ≡ place + 1 - from = omega (arith, order) in
    let there = get_after from all (place - from) ∙ ap (slice_get all) place_is ∙ here in
    put ∙ ap (λ t. titles ++ t ∷ []) is ∙ ap (λ l. l ++ title_by output ∷ []) so ∙ sym (map-append title_by (take (place - from) (drop from all)) (output ∷ []))
    ∙ ap titles_of (sym (take_next (drop from all) (place - from) output there)) ∙ ap (λ n. titles_of (take n (drop from all))) more

-- if all claims stay, as many tunes came as went
pub came_count : (old new : List Output) (front came following : ℕ) → claims_of old ≡ claims_of new → front ≤ following
    → following ≤ length old → length new ≡ front + came + (length old - following) → came ≡ following - front
came_count old new front came following same order inside count =
    let lengths : length old ≡ length new = sym (length-map old claim_of) ∙ ap length same ∙ length-map new claim_of in
    omega (arith, lengths, order, inside, count)

-- the titles of a stretch, if as many tunes came as went, and those before and after it
pub titles_among : (old new : List Output) (front came following end : ℕ) (titles : List Title) → front ≤ following → following ≤ length old → came ≡ following - front → end ≡ front + came
    → length new ≡ front + came + (length old - following) → take front new ≡ take front old → drop (front + came) new ≡ drop following old → titles ≡ titles_of (take (end - front) (drop front new))
    → take front (titles_of old) ++ (titles ++ drop (front + length titles) (titles_of old)) ≡ titles_of new
titles_among old new front came following end titles order inside count last long start rest are =
    let some : List Output = take (end - front) (drop front new) in
    let stretch : end - front ≡ came = omega (arith, last) in
    let there : front + came ≡ following = omega (arith, order, count) in
    let many : length titles ≡ came =
    ap length are ∙ length-map some title_by ∙ length-take-le (end - front) (drop front new) (omega (arith, stretch, long, length-drop front new)) ∙ stretch in
    let first : take front (titles_of old) ≡ titles_of (take front new) = take-map title_by front old ∙ ap titles_of (sym start) in
    let last : drop (front + length titles) (titles_of old) ≡ titles_of (drop came (drop front new)) =
    ap (λ n. drop (front + n) (titles_of old)) many ∙ ap (λ n. drop n (titles_of old)) there ∙ drop-map title_by following old
    ∙ ap titles_of (sym rest) ∙ ap titles_of (sym (drop-drop came front new)) in
    let middle : titles ≡ titles_of (take came (drop front new)) = are ∙ ap (λ n. titles_of (take n (drop front new))) stretch in
    ap (λ l. l ++ (titles ++ drop (front + length titles) (titles_of old))) first
    ∙ ap (λ l. titles_of (take front new) ++ (titles ++ l)) last
    ∙ ap (λ l. titles_of (take front new) ++ (l ++ titles_of (drop came (drop front new)))) middle
    ∙ ap (λ l. titles_of (take front new) ++ l) (sym (map-append title_by (take came (drop front new)) (drop came (drop front new))))
    ∙ ap (λ l. titles_of (take front new) ++ titles_of l) (take-append-drop came (drop front new))
    ∙ sym (map-append title_by (take front new) (drop front new)) ∙ ap titles_of (take-append-drop front new)
