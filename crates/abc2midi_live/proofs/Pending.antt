-- Laws of bringing a directory up to date.
use Rattle.std.proofs.Common.{◌≡◌, ℕ, zero, suc, ◌+◌, ◌-◌, ◌^◌, ◌<◌, ◌≤◌, ◌&&◌, Bool, true, false, cond, List, [], ◌∷◌, ◌++◌}
use Rattle.std.proofs.Common.{length, Option, Some, None, MatchOption, Result, Ok, Err, MatchResult, ◌≢◌, ◌⊎◌, inl, inr, ⊎_elim}
use Rattle.std.proofs.Common.{refl, sym, ap, ◌∙◌, subst, arith, append_assoc, append-nil}
use Rattle.std.specs.Prelude.{filter, is_none, is_ok, SomeIff, IfOk, IfSome, OnErr}
use Rattle.std.specs.declared.alloc.AllocError.{AllocError}
use Rattle.std.specs.Result.{result_unwrap_or}
use Rattle.std.proofs.lemmas.Bool.{cases_eq, false≢true, true≢false}
use Rattle.std.proofs.lemmas.Bool.Decides.{nat_tests}
use Rattle.abc_lines.specs.Text.{Text}
use Rattle.abc_publish.specs.Publisher.{Directory, Jobs, PublisherView, Slots, maps_of, with_job, differs, without_job, is_pending}
use Rattle.abc_publish.specs.Publisher.{is_wanted, stored_as, with_entry, HasNone, IsNext}
use Rattle.abc_publish.specs.declared.slot.Stored.{Stored}
use Rattle.abc_publish.specs.declared.slot.Stored.TheVariants.{Unknown}
use Rattle.abc_tune_compiler.specs.Files.{Files, file_at}
use Rattle.abc2midi_live_protocol.specs.Answer.{end_line, failed_line, stored_line}
use Rattle.abc2midi_live.specs.Book.{files_of}
use Rattle.abc2midi_live.specs.Building.{answer_line, answer_of, entry_after, numbers_from, pending_from, pending_numbers, stage}
use Rattle.abc2midi_live.specs.Building.{build_outcome, build_outcome_at, Builds, BuildStops, Stage, IsIdle, StopsAtOnce, StopsBy}
use Rattle.abc2midi_live.specs.Building.{Stores, StoresOne, StoresOneAtMost}
use Rattle.abc2midi_live.specs.Storing.{StoreAnswer, Done, Fault, StoreView, Follows, file_name}
use Rattle.abc2midi_live.specs.Streams.{Puts, TakesOut, KeepsOthers, faults}
use Rattle.abc2midi_live.specs.declared.streams.StoreFault.{StoreFault}
use Rattle.abc2midi_live.proofs.Storing.{follows_put, follows_removed, follows_fault, follows_none, follows_same, follows_both}
use Rattle.abc_fold.specs.Work.{raised}
use Rattle.abc2midi_live.specs.RunOutput.{RequestOutcome, Stopped, request_outcome, line_before}
use Rattle.abc2midi_live.specs.Waiting.{storing_unasked}

-- a number that passes a test, or does not, before others
passes : (p : ℕ → Bool) (n : ℕ) (rest : List ℕ) → p n ≡ true → filter p (n ∷ rest) ≡ n ∷ filter p rest
passes p n rest e = ap (λ b. cond b (n ∷ filter p rest) (filter p rest)) e

fails : (p : ℕ → Bool) (n : ℕ) (rest : List ℕ) → p n ≡ false → filter p (n ∷ rest) ≡ filter p rest
fails p n rest e = ap (λ b. cond b (n ∷ filter p rest) (filter p rest)) e

first_or_later : (first m : ℕ) → first ≤ m → (first ≡ m) ⊎ (first + 1 ≤ m)
first_or_later first m h = grind arith

-- The least of rising numbers that passes a test is the first that a filter keeps.
pub first_kept : (p : ℕ → Bool) (first count m : ℕ) → first ≤ m → m < first + count → ((n : ℕ) → first ≤ n → n < m → p n ≡ false) → p m ≡ true
    → filter p (numbers_from first count) ≡ m ∷ filter p (numbers_from (m + 1) (first + count - (m + 1)))
unfolding numbers_from
first_kept p first zero m low high least here = absurd (omega arith)
first_kept p first (suc count) m low high least here = ⊎_elim
    (λ same.
    let rest : count ≡ first + suc count - (m + 1) = omega arith in
    passes p first (numbers_from (first + 1) count) (ap p same ∙ here)
    ∙ ap (λ n. n ∷ filter p (numbers_from (n + 1) count)) same
    ∙ ap (λ k. m ∷ filter p (numbers_from (m + 1) k)) rest)
    (λ later.
    let rest : first + 1 + count - (m + 1) ≡ first + suc count - (m + 1) = omega arith in
    fails p first (numbers_from (first + 1) count) (least first (omega arith) (omega arith))
    ∙ first_kept p (first + 1) count m later (omega arith) (λ n from to. least n (omega arith) to) here
    ∙ ap (λ k. m ∷ filter p (numbers_from (m + 1) k)) rest)
    (first_or_later first m low)

-- none of rising numbers passes a test
pub none_kept : (p : ℕ → Bool) (first count : ℕ) → ((n : ℕ) → first ≤ n → n < first + count → p n ≡ false) → filter p (numbers_from first count) ≡ []
unfolding numbers_from
none_kept p first zero none = refl
none_kept p first (suc count) none =
    fails p first (numbers_from (first + 1) count) (none first (omega arith) (omega arith))
    ∙ none_kept p (first + 1) count (λ n from to. none n (omega arith) (omega arith))

-- tests that agree from the first of rising numbers on
pub same_kept : (p q : ℕ → Bool) (first count : ℕ) → ((n : ℕ) → first ≤ n → p n ≡ q n) → filter p (numbers_from first count) ≡ filter q (numbers_from first count)
unfolding numbers_from
same_kept p q first zero same = refl
same_kept p q first (suc count) same =
    let rest = numbers_from (first + 1) count in
    ap (λ b. cond b (first ∷ filter p rest) (filter p rest)) (same first (omega arith))
    ∙ ap (λ r. cond (q first) (first ∷ r) r) (same_kept p q (first + 1) count (λ n from. same n (omega arith)))

-- an entry leaves what is pending after its number
pending_after : (d : Directory) (files : Files) (m : ℕ) (entry : Option Stored) (n : ℕ) → m + 1 ≤ n → is_pending d files n ≡ is_pending (with_entry d m entry) files n
pending_after d files m entry n h =
    let e : with_entry d m entry n ≡ d n = grind (arith, nat_tests) in
    ap (λ s. differs s (file_at files n)) (sym e)

-- with no job under way, what is pending is wanted
wanted_idle : (p : PublisherView) (files : Files) (n : ℕ) → IsIdle p → is_wanted p files n ≡ is_pending p.directory files n
wanted_idle p files n idle = ap (λ j. is_pending p.directory files n && is_none j) (idle n) ∙ both (is_pending p.directory files n) where
  both : (b : Bool) → b && true ≡ b
  both true = refl
  both false = refl

fits_or_not : (m : ℕ) → (m + 1 < 2 ^ 32) ⊎ ((m + 1 < 2 ^ 32) → ⊥)
fits_or_not m = grind arith

-- the number to go on from after one
abbrev pub IsNumberAfter : ℕ → Option ℕ → Type 0
IsNumberAfter m next = SomeIff next (m + 1 < 2 ^ 32) (m + 1)

no_numbers : (first : ℕ) → numbers_from first 0 ≡ []
unfolding numbers_from
no_numbers first = refl

pending_next : (d : Directory) (files : Files) (m : ℕ) (next : Option ℕ) → m < 2 ^ 32 → IsNumberAfter m next
    → filter (is_pending d files) (numbers_from (m + 1) (2 ^ 32 - (m + 1))) ≡ pending_from d files next
unfolding pending_from
pending_next d files m None small h =
    let all : 2 ^ 32 - (m + 1) ≡ 0 = omega arith in
    ap (λ k. filter (is_pending d files) (numbers_from (m + 1) k)) all ∙ ap (filter (is_pending d files)) (no_numbers (m + 1))
pending_next d files m (Some n) small h = let same : m + 1 ≡ n = sym h.1 in ap (λ k. filter (is_pending d files) (numbers_from k (2 ^ 32 - k))) same

-- the first of what is pending is the least, and an entry there leaves the others
first_pending : (p : PublisherView) (files : Files) (from m : ℕ) (next : Option ℕ) (entry : Option Stored) → IsIdle p → IsNext p files from m → m < 2 ^ 32 → IsNumberAfter m next
    → pending_from p.directory files (Some from) ≡ m ∷ pending_from (with_entry p.directory m entry) files next
unfolding pending_from
first_pending p files from m next entry idle is small next_is =
    let d = p.directory in
    let low : from ≤ m = is.inside in
    let rest : from + (2 ^ 32 - from) - (m + 1) ≡ 2 ^ 32 - (m + 1) = omega arith in
    first_kept (is_pending d files) from (2 ^ 32 - from) m low (omega arith) (λ n above below. sym (wanted_idle p files n idle) ∙ is.least n above below) (sym (wanted_idle p files m idle) ∙ is.wanted)
    ∙ ap (λ k. m ∷ filter (is_pending d files) (numbers_from (m + 1) k)) rest
    ∙ ap (λ ns. m ∷ ns) (same_kept (is_pending d files) (is_pending (with_entry d m entry) files) (m + 1) (2 ^ 32 - (m + 1)) (λ n h. pending_after d files m entry n h)
    ∙ pending_next (with_entry d m entry) files m next small next_is)

none_pending : (p : PublisherView) (files : Files) (from : ℕ) → from < 2 ^ 32 → IsIdle p → HasNone p files from → pending_from p.directory files (Some from) ≡ []
unfolding pending_from
none_pending p files from small idle none = none_kept (is_pending p.directory files) from (2 ^ 32 - from) (λ n above below. sym (wanted_idle p files n idle) ∙ none n above (omega arith))

-- none is pending, and the build ends
pub stores_none : (text : Text) (p : PublisherView) (files : Files) (from : ℕ) → files ≡ files_of text → from < 2 ^ 32 → IsIdle p
    → HasNone p files from → Stores text (stage p.directory (Some from)) [] [] (stage p.directory None)
unfolding build_outcome pending_from
stores_none text p files from e small idle none = λ extent later.
    ap (λ ns. build_outcome extent text p.directory ns later) (none_pending p (files_of text) from small idle (subst (λ fs. HasNone p fs from) e none))

-- the file of the least number is stored, and the build goes on after it
pub stores_done : (text : Text) (p : PublisherView) (files : Files) (from m : ℕ) (bytes : Option (List ℕ)) (next : Option ℕ) → files ≡ files_of text → m < 2 ^ 32 → IsIdle p → IsNext p files from m
    → bytes ≡ file_at files m → IsNumberAfter m next
    → Stores text (stage p.directory (Some from)) (Done ∷ []) (stored_line m bytes) (stage (with_entry p.directory m (stored_as bytes)) next)
unfolding build_outcome
stores_done text p files from m bytes next e small idle is file next_is = λ extent later.
    let d = p.directory in
    let same : file_at (files_of text) m ≡ bytes = sym (file ∙ ap (λ fs. file_at fs m) e) in
    ap (λ ns. build_outcome extent text d ns (Done ∷ later))
    (first_pending p (files_of text) from m next (stored_as (file_at (files_of text) m)) idle (subst (λ fs. IsNext p fs from m) e is) small next_is)
    ∙ ap (λ b. line_before (stored_line m b) (build_outcome extent text (with_entry d m (stored_as b)) (pending_from (with_entry d m (stored_as b)) (files_of text) next) later)) same

some_next : (m : ℕ) → (next : Option ℕ) × IsNumberAfter m next
some_next m = ⊎_elim (λ fits. (Some (m + 1), (fits, refl))) (λ not. (None, not)) (fits_or_not m)

-- the store failed, and the build ends
pub stores_fault : (text : Text) (p : PublisherView) (files : Files) (from m : ℕ) → files ≡ files_of text → m < 2 ^ 32 → IsIdle p → IsNext p files from m
    → Stores text (stage p.directory (Some from)) (Fault ∷ []) (failed_line m) (stage (with_entry p.directory m (Some Unknown)) None)
unfolding build_outcome pending_from
stores_fault text p files from m e small idle is = λ extent later.
    let d = p.directory in
    let some : (next : Option ℕ) × IsNumberAfter m next = some_next m in
    ap (λ ns. build_outcome extent text d ns (Fault ∷ later)) (first_pending p (files_of text) from m some.0 (Some Unknown) idle (subst (λ fs. IsNext p fs from m) e is) small some.1)

line_before_both : (a b : List ℕ) (rest : Option RequestOutcome) → line_before a (line_before b rest) ≡ line_before (a ++ b) rest
line_before_both a b None = refl
line_before_both a b (Some r) = ap (λ t. Some (request_outcome t r.after r.left)) (sym (append_assoc a b r.text))

line_before_none : (rest : Option RequestOutcome) → rest ≡ line_before [] rest
line_before_none None = refl
line_before_none (Some r) = refl

-- nothing is stored yet
pub stores_first : (text : Text) (d : Directory) (from : Option ℕ) → Stores text (stage d from) [] [] (stage d from)
stores_first text d from = λ extent later. line_before_none (build_outcome_at extent text (stage d from) later)

-- what is stored after what was stored
pub stores_both : (text : Text) (d e f : Directory) (at from next : Option ℕ) (a b : List StoreAnswer) (x y : List ℕ)
    → Stores text (stage d at) a x (stage e from) → Stores text (stage e from) b y (stage f next)
    → Stores text (stage d at) (a ++ b) (x ++ y) (stage f next)
stores_both text d e f at from next a b x y first second = λ extent later.
    ap (build_outcome extent text d (pending_from d (files_of text) at)) (append_assoc a b later) ∙ first extent (b ++ later) ∙ ap (line_before x) (second extent later)
    ∙ line_before_both x y (build_outcome_at extent text (stage f next) later)

-- no number is left
pub builds_all : (text : Text) (d e : Directory) (now : List StoreAnswer) (run_output : List ℕ)
    → Stores text (stage d (Some 0)) now run_output (stage e None) → Builds text d now (run_output ++ end_line) e
unfolding pending_from pending_numbers build_outcome
builds_all text d e now run_output stores = λ extent later. stores extent later

-- a build that stops, and the answers that the store has given
abbrev pub StopsWith : Text → Stage → List StoreAnswer → StoreView → StoreView → Type 0
StopsWith text at now old new = (stopped : StopsBy at.directory (build_outcome_at Stopped text at) old new) × (stopped.0 ≡ now)

-- it stops before the store answers
pub stops_first : (text : Text) (at : Stage) (s : StoreView) → StopsWith text at [] s s
stops_first text at s =
    let d = at.directory in
    let none = storing_unasked text d (pending_from d (files_of text) at.from) in
    (([], none.0, none.1, none.2, follows_same s d none.0.after.directory none.3), refl)

-- it stops after what was stored
pub stops_after : (text : Text) (d e : Directory) (at next : Option ℕ) (now more : List StoreAnswer) (run_output : List ℕ)
    (old mid new : StoreView) → Stores text (stage d at) now run_output (stage e next) → Follows old mid now d e
    → StopsWith text (stage e next) more mid new → StopsWith text (stage d at) (now ++ more) old new
stops_after text d e at next now more run_output old mid new stores follows ((later, a, is, left, follows'), same) = (
  (
    now ++ later,
    request_outcome (run_output ++ a.text) a.after a.left,
    stores Stopped later ∙ ap (line_before run_output) is,
    left,
    follows_both old mid new now later d e a.after.directory follows follows',
  ),
  ap (λ l. now ++ l) same,
)

pub stops_uncalled : (text : Text) (at : Stage) (s : StoreView) → StopsAtOnce text at s s
stops_uncalled text at s =
    let first = stops_first text at s in
    let none : length first.0.0 ≡ 0 = ap length first.1 in
    (first.0, omega arith)

stops_called : (text : Text) (at : Stage) (answer : StoreAnswer) (old new : StoreView) → StopsWith text at (answer ∷ []) old new → StopsAtOnce text at old new
stops_called text at answer old new h =
    let one : length h.0.0 ≡ 1 = ap length h.1 in
    (h.0, omega arith)

-- It was called for the least number, if it was called.
pub stops_once : (text : Text) (p : PublisherView) (from m : ℕ) (bytes : Option (List ℕ)) (old new : StoreView) → m < 2 ^ 32 → IsIdle p
    → IsNext p (files_of text) from m × (bytes ≡ file_at (files_of text) m)
    → StoresOneAtMost old new m bytes → StopsAtOnce text (stage p.directory (Some from)) old new
stops_once text p from m bytes old new small idle least (inl same) =
    let at = stage p.directory (Some from) in
    subst (λ (new : StoreView). StopsAtOnce text at old new) (sym same) (stops_uncalled text at old)
stops_once text p from m bytes old new small idle least (inr (Done, one)) =
    let d = p.directory in
    let e = with_entry d m (stored_as bytes) in
    let next : (next : Option ℕ) × IsNumberAfter m next = some_next m in
    stops_called text (stage d (Some from)) Done old new
    (stops_after text d e (Some from) next.0 (Done ∷ []) [] (stored_line m bytes) old new new
    (stores_done text p (files_of text) from m bytes next.0 refl small idle least.0 least.1 next.1) (one d) (stops_first text (stage e next.0) new))
stops_once text p from m bytes old new small idle least (inr (Fault, one)) =
    let d = p.directory in
    let e = with_entry d m (Some Unknown) in
    stops_called text (stage d (Some from)) Fault old new
    (stops_after text d e (Some from) None (Fault ∷ []) [] (failed_line m) old new new
    (stores_fault text p (files_of text) from m refl small idle least.0) (one d) (stops_first text (stage e None) new))

-- how many numbers there are from one on
abbrev pub left_from : Option ℕ → ℕ
left_from None = 0
left_from (Some from) = 2 ^ 32 - from

pub left_fewer : (old new : Option ℕ) (from : ℕ) → old ≡ Some from → IfSome old (λ n. n < 2 ^ 32) → IfSome new (λ n. (from < n) × (n < 2 ^ 32)) → left_from new < left_from old
left_fewer old new from e small onward = subst (λ o. left_from new < left_from o) (sym e) (fewer new onward) where
  fits : from < 2 ^ 32
  fits = subst (λ o. IfSome o (λ n. n < 2 ^ 32)) e small

  fewer : (new : Option ℕ) → IfSome new (λ n. (from < n) × (n < 2 ^ 32)) → left_from new < left_from (Some from)
  fewer None h = let f = fits in omega arith
  fewer (Some n) h = let f = fits in omega (arith, h.0)

pub left_small : (next : Option ℕ) (from : ℕ) → IfSome next (λ n. (from < n) × (n < 2 ^ 32)) → IfSome next (λ n. n < 2 ^ 32)
left_small None from h = tt
left_small (Some n) from h = h.1

-- the number to go on from lies after
pub onward : (from m : ℕ) (next : Option ℕ) → from ≤ m → IsNumberAfter m next → IfSome next (λ n. (from < n) × (n < 2 ^ 32))
onward from m None low h = tt
onward from m (Some n) low h = let e : n ≡ m + 1 = h.1 in (omega arith, let fits : m + 1 < 2 ^ 32 = h.0 in omega arith)

-- the file of a number was put, or the store failed
pub follows_stored : (r : Result (Unit {0}) StoreFault) (old new : StoreView) (d : Directory) (n : ℕ) (name bytes : List ℕ) → n < 2 ^ 32 → name ≡ file_name n
    → MatchResult r (λ _. Puts old.contents new.contents name bytes) (λ _. KeepsOthers old.contents new.contents name) → new.failures ≡ raised old.failures (faults r) → new.calls ≡ raised old.calls 1
    → Follows old new (answer_of (is_ok r) ∷ []) d (with_entry d n (entry_after (answer_of (is_ok r)) (Some bytes)))
follows_stored (Ok x) old new d n name bytes small e put counted called = follows_put old new d n name bytes small e put counted called
follows_stored (Err x) old new d n name bytes small e kept counted called = follows_fault old new d n name small e kept counted called

-- it was removed, or the store failed
pub follows_taken : (r : Result (Unit {0}) StoreFault) (old new : StoreView) (d : Directory) (n : ℕ) (name : List ℕ) → n < 2 ^ 32 → name ≡ file_name n
    → MatchResult r (λ _. TakesOut old.contents new.contents name) (λ _. KeepsOthers old.contents new.contents name) → new.failures ≡ raised old.failures (faults r) → new.calls ≡ raised old.calls 1
    → Follows old new (answer_of (is_ok r) ∷ []) d (with_entry d n (entry_after (answer_of (is_ok r)) None))
follows_taken (Ok x) old new d n name small e taken counted called = follows_removed old new d n name small e taken counted called
follows_taken (Err x) old new d n name small e kept counted called = follows_fault old new d n name small e kept counted called

-- the same of the number and the bytes of a job
pub follows_job : (old new : StoreView) (d : Directory) (n m : ℕ) (done stored : Bool) (bytes file : Option (List ℕ)) → n ≡ m → bytes ≡ file → done ≡ stored
    → Follows old new (answer_of stored ∷ []) d (with_entry d n (entry_after (answer_of stored) bytes))
    → Follows old new (answer_of done ∷ []) d (with_entry d m (entry_after (answer_of done) file))
follows_job old new d n m done stored bytes file e f s h =
    subst (λ (b : Bool). Follows old new (answer_of b ∷ []) d (with_entry d m (entry_after (answer_of b) file))) (sym s)
    (subst (λ (b : Option (List ℕ)). Follows old new (answer_of stored ∷ []) d (with_entry d m (entry_after (answer_of stored) b))) f
    (subst (λ (k : ℕ). Follows old new (answer_of stored ∷ []) d (with_entry d k (entry_after (answer_of stored) bytes))) e h))

-- the same if the answer cannot be written
pub stores_job : (old new : StoreView) (n m : ℕ) (stored : Bool) (bytes file : Option (List ℕ)) → n ≡ m → bytes ≡ file
    → StoresOne old new (answer_of stored) n bytes → StoresOneAtMost old new m file
stores_job old new n m stored bytes file e f h = inr (answer_of stored, λ d. follows_job old new d n m stored stored bytes file e f refl (h d))

-- the publisher after a job that was done
pub ends_done : (r : Result Bool AllocError) (p q : PublisherView) (n : ℕ) (bytes : Option (List ℕ)) → result_unwrap_or r false ≡ true → q ≡ without_job p n (stored_as bytes)
    → IfOk r (λ stored. q ≡ without_job p n (entry_after (answer_of stored) bytes))
ends_done (Ok true) p q n bytes is e = e
ends_done (Ok false) p q n bytes is e = absurd (false≢true is)
ends_done (Err x) p q n bytes is e = tt

-- and after one that failed
pub ends_failed : (r : Result Bool AllocError) (p q : PublisherView) (n : ℕ) (bytes : Option (List ℕ)) → result_unwrap_or r false ≡ false → q ≡ without_job p n (Some Unknown)
    → IfOk r (λ stored. q ≡ without_job p n (entry_after (answer_of stored) bytes))
ends_failed (Ok true) p q n bytes is e = absurd (true≢false is)
ends_failed (Ok false) p q n bytes is e = e
ends_failed (Err x) p q n bytes is e = tt

-- a result that counts as stored is no error
pub no_error : (r : Result Bool AllocError) (P : Type 0) → result_unwrap_or r false ≡ true → OnErr r P
no_error (Ok stored) P is = tt
no_error (Err x) P is = absurd (false≢true is)

-- a fact for any case holds after an error
pub in_error : (r : Result Bool AllocError) (P : Type 0) → P → OnErr r P
in_error (Ok stored) P p = tt
in_error (Err x) P p = p

-- the directory that a store follows is that of the publisher
pub follows_ended : (r : Result Bool AllocError) (old new : StoreView) (p q : PublisherView) (n : ℕ) (bytes : Option (List ℕ))
    → IfOk r (λ stored. q ≡ without_job p n (entry_after (answer_of stored) bytes))
    → IfOk r (λ stored. (d : Directory) → Follows old new (answer_of stored ∷ []) d (with_entry d n (entry_after (answer_of stored) bytes)))
    → IfOk r (λ stored. Follows old new (answer_of stored ∷ []) p.directory q.directory)
follows_ended (Ok stored) old new p q n bytes e h = subst (λ (q : PublisherView). Follows old new (answer_of stored ∷ []) p.directory q.directory) (sym e) (h p.directory)
follows_ended (Err x) old new p q n bytes e h = tt

-- no job is under way after the end of the only one
pub idle_again : (p q r : PublisherView) (n : ℕ) (bytes : Option (List ℕ)) → IsIdle p → q ≡ with_job p n bytes → r.jobs ≡ with_entry q.jobs n None → IsIdle r
idle_again p q r n bytes idle e f = λ k. ap (λ (j : Jobs). j k) f ∙ ap (λ (q : PublisherView). with_entry q.jobs n None k) e ∙ none k (cases_eq k n) where
  none : (k : ℕ) → (k ≡ n) ⊎ (k ≢ n) → with_entry (with_entry p.jobs n (Some bytes)) n None k ≡ None
  none k (inl same) = grind (arith, nat_tests)
  none k (inr other) = let i : p.jobs k ≡ None = idle k in grind (arith, nat_tests)

-- a job is under way once it has begun
pub under_way : (p q : PublisherView) (n : ℕ) (bytes : Option (List ℕ)) → q ≡ with_job p n bytes → q.jobs n ≡ Some bytes
under_way p q n bytes e = ap (λ (q : PublisherView). q.jobs n) e ∙ here where
  here : with_entry p.jobs n (Some bytes) n ≡ Some bytes
  here = grind (arith, nat_tests)

-- the directory after the job that was begun
pub directory_after : (p q r : PublisherView) (n : ℕ) (bytes : Option (List ℕ)) (entry : Option Stored) → q ≡ with_job p n bytes
    → r ≡ without_job q n entry → r.directory ≡ with_entry p.directory n entry
directory_after p q r n bytes entry e f = ap (λ (r : PublisherView). r.directory) f ∙ ap (λ (q : PublisherView). with_entry q.directory n entry) e

pub at_none : {T : Type 0} (o : Option T) (A : Type 0) (B : T → Type 0) → o ≡ None → MatchOption o A B → A
at_none o A B e h = subst (λ o. MatchOption o A B) e h

pub at_some : {T : Type 0} (o : Option T) (x : T) (A : Type 0) (B : T → Type 0) → o ≡ Some x → MatchOption o A B → B x
at_some o x A B e h = subst (λ o. MatchOption o A B) e h

-- The visible state of a build: the text that it has written, and the store.
pub record BuildSeen : Type 0 where
  pub text : List ℕ
  pub store : StoreView

abbrev pub build_seen : List ℕ → StoreView → BuildSeen
build_seen text store = record { text = text; store = store }

-- the step over one more file
abbrev pub Advances : Text → Stage → Stage → BuildSeen → BuildSeen → Type 0
Advances text before after old new =
    (now : List StoreAnswer) × (run_output : List ℕ) × (new.text ≡ old.text ++ run_output) × Stores text before now run_output after
    × Follows old.store new.store now before.directory after.directory

pub next_none : (text : Text) (p q : Slots) (s : StoreView) (from : ℕ) (old : List ℕ) → from < 2 ^ 32 → IsIdle (maps_of p) → HasNone (maps_of p) (files_of text) from → q ≡ p
    → Advances text (stage (maps_of p).directory (Some from)) (stage (maps_of q).directory None) (build_seen old s) (build_seen old s)
next_none text p q s from old small idle none e =
    subst (λ (q : Slots). Advances text (stage (maps_of p).directory (Some from)) (stage (maps_of q).directory None) (build_seen old s) (build_seen old s)) (sym e)
    ([], [], sym (append-nil old), stores_none text (maps_of p) (files_of text) from refl small idle none, follows_none s (maps_of p).directory)

pub next_done : (text : Text) (p q r : Slots) (s t : StoreView) (from m : ℕ) (bytes : Option (List ℕ)) (next : Option ℕ) (old new : List ℕ) (done : Bool) → done ≡ true → m < 2 ^ 32
    → IsIdle (maps_of p) → IsNext (maps_of p) (files_of text) from m × (bytes ≡ file_at (files_of text) m) → IsNumberAfter m next → maps_of q ≡ with_job (maps_of p) m bytes
    → maps_of r ≡ without_job (maps_of q) m (entry_after (answer_of done) bytes)
    → new ≡ old ++ answer_line (answer_of done) m bytes → Follows s t (answer_of done ∷ []) (maps_of q).directory (maps_of r).directory
    → Advances text (stage (maps_of p).directory (Some from)) (stage (maps_of r).directory next) (build_seen old s) (build_seen new t)
next_done text p q r s t from m bytes next old new done is small idle least next_is taken over run_output follows =
    let before : (maps_of q).directory ≡ (maps_of p).directory = ap (λ (x : PublisherView). x.directory) taken in
    let over : maps_of r ≡ without_job (maps_of q) m (stored_as bytes) = subst (λ b. maps_of r ≡ without_job (maps_of q) m (entry_after (answer_of b) bytes)) is over in
    let after : (maps_of r).directory ≡ with_entry (maps_of p).directory m (stored_as bytes) = directory_after (maps_of p) (maps_of q) (maps_of r) m bytes (stored_as bytes) taken over in (
      Done ∷ [],
      stored_line m bytes,
      subst (λ b. new ≡ old ++ answer_line (answer_of b) m bytes) is run_output,
      subst (λ (d : Directory). Stores text (stage (maps_of p).directory (Some from)) (Done ∷ []) (stored_line m bytes) (stage d next)) (sym after)
          (stores_done text (maps_of p) (files_of text) from m bytes next refl small idle least.0 least.1 next_is),
      subst (λ (d : Directory). Follows s t (Done ∷ []) d (maps_of r).directory) before (subst (λ b. Follows s t (answer_of b ∷ []) (maps_of q).directory (maps_of r).directory) is follows),
    )

pub next_fault : (text : Text) (p q r : Slots) (s t : StoreView) (from m : ℕ) (bytes : Option (List ℕ)) (old new : List ℕ) (done : Bool) → done ≡ false → m < 2 ^ 32
    → IsIdle (maps_of p) → IsNext (maps_of p) (files_of text) from m × (bytes ≡ file_at (files_of text) m) → maps_of q ≡ with_job (maps_of p) m bytes
    → maps_of r ≡ without_job (maps_of q) m (entry_after (answer_of done) bytes)
    → new ≡ old ++ answer_line (answer_of done) m bytes → Follows s t (answer_of done ∷ []) (maps_of q).directory (maps_of r).directory
    → Advances text (stage (maps_of p).directory (Some from)) (stage (maps_of r).directory None) (build_seen old s) (build_seen new t)
next_fault text p q r s t from m bytes old new done is small idle least taken over run_output follows =
    let before : (maps_of q).directory ≡ (maps_of p).directory = ap (λ (x : PublisherView). x.directory) taken in
    let over : maps_of r ≡ without_job (maps_of q) m (Some Unknown) = subst (λ b. maps_of r ≡ without_job (maps_of q) m (entry_after (answer_of b) bytes)) is over in
    let after : (maps_of r).directory ≡ with_entry (maps_of p).directory m (Some Unknown) = directory_after (maps_of p) (maps_of q) (maps_of r) m bytes (Some Unknown) taken over in (
      Fault ∷ [],
      failed_line m,
      subst (λ b. new ≡ old ++ answer_line (answer_of b) m bytes) is run_output,
      subst (λ (d : Directory). Stores text (stage (maps_of p).directory (Some from)) (Fault ∷ []) (failed_line m) (stage d None)) (sym after)
          (stores_fault text (maps_of p) (files_of text) from m refl small idle least.0),
      subst (λ (d : Directory). Follows s t (Fault ∷ []) d (maps_of r).directory) before (subst (λ b. Follows s t (answer_of b ∷ []) (maps_of q).directory (maps_of r).directory) is follows),
    )

-- what a build has stored so far
abbrev pub StoresSoFar : Text → Directory → StoreView → Stage → BuildSeen → Type 0
StoresSoFar text first start at seen =
    (now : List StoreAnswer) × Stores text (stage first (Some 0)) now seen.text at × Follows start seen.store now first at.directory

pub so_far_none : (text : Text) (d : Directory) (s : StoreView) → StoresSoFar text d s (stage d (Some 0)) (build_seen [] s)
so_far_none text d s = ([], stores_first text d (Some 0), follows_none s d)

pub so_far_more : (text : Text) (first : Directory) (p r : PublisherView) (old new : List ℕ) (start s t : StoreView) (at : Option ℕ) (from : ℕ) (next : Option ℕ) → at ≡ Some from
    → StoresSoFar text first start (stage p.directory at) (build_seen old s) → Advances text (stage p.directory (Some from)) (stage r.directory next) (build_seen old s) (build_seen new t)
    → StoresSoFar text first start (stage r.directory next) (build_seen new t)
so_far_more text first p r old new start s t at from next is h step =
    let stores : Stores text (stage first (Some 0)) h.0 old (stage p.directory (Some from)) = subst (λ o. Stores text (stage first (Some 0)) h.0 old (stage p.directory o)) is h.1 in (
      h.0 ++ step.0,
      subst (λ (x : List ℕ). Stores text (stage first (Some 0)) (h.0 ++ step.0) x (stage r.directory next)) (sym step.2)
          (stores_both text first p.directory r.directory (Some 0) (Some from) next h.0 step.0 old step.1 stores step.3),
      follows_both start s t h.0 step.0 first p.directory r.directory h.2 step.4,
    )

pub so_far_all : (text : Text) (first after : Directory) (run_output answer : List ℕ) (start s : StoreView) (at : Option ℕ) → at ≡ None → answer ≡ run_output ++ end_line
    → StoresSoFar text first start (stage after at) (build_seen run_output s) → (now : List StoreAnswer) × Builds text first now answer after × Follows start s now first after
so_far_all text first after run_output answer start s at is e h = (
  h.0,
  subst (λ (x : List ℕ). Builds text first h.0 x after) (sym e) (builds_all text first after h.0 run_output (subst (λ o. Stores text (stage first (Some 0)) h.0 run_output (stage after o)) is h.1)),
  h.2,
)

-- a build that stops
pub so_far_stops : (text : Text) (first d : Directory) (run_output : List ℕ) (start s t : StoreView) (at : Option ℕ)
    → StoresSoFar text first start (stage d at) (build_seen run_output s) → StopsBy d (build_outcome_at Stopped text (stage d at)) s t
    → BuildStops text first start t
unfolding pending_from pending_numbers
so_far_stops text first d run_output start s t at h stops = (stops_after text first d (Some 0) at h.0 stops.0 run_output start s t h.1 h.2 (stops, refl)).0
