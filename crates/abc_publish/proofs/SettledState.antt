-- When nothing is to be done.
use Rattle.std.proofs.Common.{◌≡◌, ℕ, ◌<◌, ◌^◌, ◌==◌, cond, true, false, not, ◌&&◌, Bool, List, [], ◌∷◌, Option, Some, None}
use Rattle.std.proofs.Common.{is_none, is_some, refl, sym, ap, subst, IsTrue, true≢false, ◌∙◌, arith, All}
use Rattle.std.specs.List.{list_all}
use Rattle.std.specs.BTreeMap.{is_at}
use Rattle.std.specs.Map.{lookup}
use Rattle.std.specs.Ordering.{nat_cmp}
use Rattle.std.specs.Str.{bytes_eq}
use Rattle.std.proofs.lemmas.List.Elements.{All-head, All-tail}
use Rattle.std.proofs.lemmas.Bool.{and_parts, false≢true}
use Rattle.std.proofs.lemmas.Bool.Decides.{nat_tests}
use Rattle.std.proofs.lemmas.Slice.Eq.{bytes_eq-Decides}
use Rattle.abc_publish.specs.Publisher.{Stored, Known, Unknown, SlotView, Slots, PublisherView, differs, stored_as, slot_at}
use Rattle.abc_publish.specs.Publisher.{job_bytes_of, is_pending, is_wanted, HasNone, IsSettled}
use Rattle.abc_publish.specs.Laws.{SettledIsCurrent, CurrentIsSettled, JobOnce}
use Rattle.abc_tune_compiler.specs.Files.{Files, file_at}

same_bytes : (b f : List ℕ) (r : Bool) → bytes_eq b f ≡ r → not r ≡ false → b ≡ f
same_bytes b f true is same = (bytes_eq-Decides b f).0 is
same_bytes b f false is same = absurd (true≢false same)

pub held : (entry : Option Stored) (file : Option (List ℕ)) → differs entry file ≡ false → entry ≡ stored_as file
held None None same = refl
held None (Some file) same = absurd (true≢false same)
held (Some (Known bytes)) None same = absurd (true≢false same)
held (Some (Known bytes)) (Some file) same = ap (λ b. Some (Known b)) (same_bytes bytes file (bytes_eq bytes file) refl same)
held (Some Unknown) None same = absurd (true≢false same)
held (Some Unknown) (Some file) same = absurd (true≢false same)

pub holds : (file : Option (List ℕ)) → differs (stored_as file) file ≡ false
holds None = refl
holds (Some file) = ap not ((bytes_eq-Decides file file).1 refl)

unpending : (pending : Bool) (job : Option (Option (List ℕ))) → job ≡ None → (pending && is_none job) ≡ false → pending ≡ false
unpending true None none same = same
unpending false job none same = refl
unpending true (Some job) none same = absurd (true≢false (ap is_some none))

unwanted : (pending free : Bool) → pending ≡ false → (pending && free) ≡ false
unwanted false free none = refl
unwanted true free none = absurd (true≢false none)

pub settles : (p : PublisherView) (files : Files) → ((n : ℕ) → p.jobs n ≡ None) → HasNone p files 0 → IsSettled p files
settles p files idle none = record {
  current = λ n in_range. held (p.directory n) (file_at files n) (unpending (is_pending p.directory files n) (p.jobs n) (idle n) (none n (omega arith) in_range));
  idle = idle;
}

pub is_current : (p : PublisherView) (files : Files) → IsSettled p files → (n : ℕ) → n < 2 ^ 32 → is_pending p.directory files n ≡ false
is_current p files settled n in_range = ap (λ entry. differs entry (file_at files n)) (settled.current n in_range) ∙ holds (file_at files n)

pub none_wanted : (p : PublisherView) (files : Files) → IsSettled p files → (n : ℕ) → n < 2 ^ 32 → is_wanted p files n ≡ false
none_wanted p files settled n in_range = unwanted (is_pending p.directory files n) (is_none (p.jobs n)) (is_current p files settled n in_range)

abbrev pub is_idle : ℕ × SlotView → Bool
is_idle slot = not (is_some slot.1.job_bytes)

none_carried : (job : Option (Option (List ℕ))) → not (is_some job) ≡ true → job ≡ None
none_carried None idle = refl
none_carried (Some job) idle = absurd (false≢true idle)

picked : (b : Bool) (slot : SlotView) (rest : Option SlotView) → slot.job_bytes ≡ None → job_bytes_of rest ≡ None → job_bytes_of (cond b (Some slot) rest) ≡ None
picked true slot rest here following = here
picked false slot rest here following = following

pub idle_at : (test : ℕ → Bool) (slots : Slots) → list_all is_idle slots ≡ true → job_bytes_of (lookup test slots) ≡ None
idle_at test [] all = refl
idle_at test (slot ∷ slots) all =
    let parts = and_parts (is_idle slot) (list_all is_idle slots) all in
    picked (test slot.0) slot.1 (lookup test slots) (none_carried slot.1.job_bytes parts.0) (idle_at test slots parts.1)

all_idle : (slots : Slots) → All (λ (e : ℕ × SlotView). e.1.job_bytes ≡ None) slots → list_all is_idle slots ≡ true
all_idle [] none = refl
all_idle (slot ∷ slots) none =
    let rest = all_idle slots (All-tail (λ (e : ℕ × SlotView). e.1.job_bytes ≡ None) slot slots none) in
    ap (λ job. not (is_some job) && list_all is_idle slots) (All-head (λ (e : ℕ × SlotView). e.1.job_bytes ≡ None) slot slots none) ∙ rest

pub idle_entries : (slots : Slots) → All (λ (e : ℕ × SlotView). slot_at slots e.0 ≡ Some e.1) slots → ((n : ℕ) → job_bytes_of (slot_at slots n) ≡ None) → list_all is_idle slots ≡ true
idle_entries slots found idle = all_idle slots (λ k d inside. sym (ap job_bytes_of (found k d inside)) ∙ idle _)

-- the entries of the slots decide whether every number is idle
pub idle_exactly : (held slots entries : Slots) (r : Bool) → held ≡ slots → entries ≡ held → r ≡ list_all is_idle entries → All (λ (e : ℕ × SlotView). slot_at held e.0 ≡ Some e.1) held
    → (IsTrue r → (n : ℕ) → job_bytes_of (slot_at slots n) ≡ None) × (((n : ℕ) → job_bytes_of (slot_at slots n) ≡ None) → IsTrue r)
idle_exactly held slots entries r are shown is found =
    let at : r ≡ list_all is_idle slots = is ∙ ap (list_all is_idle) (shown ∙ are) in
    let there : All (λ (e : ℕ × SlotView). slot_at slots e.0 ≡ Some e.1) slots = subst (λ (s : Slots). All (λ (e : ℕ × SlotView). slot_at s e.0 ≡ Some e.1) s) are found in
    (λ yes n. idle_at (is_at (nat_cmp n)) slots (sym at ∙ yes), λ idle. at ∙ idle_entries slots there idle)

again : (pending : Bool) → (pending && false) ≡ false
again true = refl
again false = refl

own : (jobs : ℕ → Option (Option (List ℕ))) (n : ℕ) (bytes : Option (List ℕ)) (b : Bool) → (n == n) ≡ b → is_none (cond b (Some bytes) (jobs n)) ≡ false
own jobs n bytes true same = refl
own jobs n bytes false same = absurd (grind (arith, nat_tests))

pub settled_is_current : SettledIsCurrent
settled_is_current = is_current

pub current_is_settled : CurrentIsSettled
current_is_settled p files current idle = settles p files idle (λ n from in_range. unwanted (is_pending p.directory files n) (is_none (p.jobs n)) (current n in_range))

pub job_once : JobOnce
job_once p files n bytes = ap (λ b. is_pending p.directory files n && b) (own p.jobs n bytes (n == n) refl) ∙ again (is_pending p.directory files n)
