-- The jobs under way after one that begins, and after one that ends.
use Rattle.std.proofs.Common.{◌≡◌, ◌≢◌, ℕ, ◌==◌, cond, true, false, List, Option, Some, None, is_none, sym, ap, subst, Result, Ok}
use Rattle.std.proofs.Common.{◌∙◌, arith}
use Rattle.std.specs.Prelude.{IfOk, MatchOption}
use Rattle.std.proofs.lemmas.Bool.{and_parts, false≢true}
use Rattle.std.proofs.lemmas.Bool.Decides.{nat_tests}
use Rattle.abc_publish.specs.Publisher.{PublisherView, with_job, without_job, is_pending, IsNext}
use Rattle.abc_publish.specs.declared.slot.Stored.{Stored}
use Rattle.abc_tune_compiler.specs.Files.{Files}

apart : (n k : ℕ) → n ≢ k → (n == k) ≡ false
apart n k other = grind (arith, nat_tests)

pub others : (p q : PublisherView) (k : ℕ) (stored : Option Stored) → q ≡ without_job p k stored → (n : ℕ) → n ≢ k → q.jobs n ≡ p.jobs n
others p q k stored is n other = ap (λ (r : PublisherView). r.jobs n) is ∙ ap (λ b. cond b None (p.jobs n)) (apart n k other)

here : (k : ℕ) → (k == k) ≡ true
here k = grind (arith, nat_tests)

pub own : (p q : PublisherView) (k : ℕ) (bytes : Option (List ℕ)) → q ≡ with_job p k bytes → q.jobs k ≡ Some bytes
own p q k bytes is = ap (λ (r : PublisherView). r.jobs k) is ∙ ap (λ b. cond b (Some bytes) (p.jobs k)) (here k)

free : (job : Option (Option (List ℕ))) (bytes : Option (List ℕ)) → job ≡ Some bytes → is_none job ≡ false
free job bytes is = ap is_none is

-- a number without a job under way is none of those under way
pub new : (p : PublisherView) (files : Files) (from n k : ℕ) (bytes : Option (List ℕ)) → IsNext p files from k → p.jobs n ≡ Some bytes → n ≢ k
new p files from n k bytes next job same =
    false≢true (sym (free (p.jobs k) bytes (ap p.jobs (sym same) ∙ job)) ∙ (and_parts (is_pending p.directory files k) (is_none (p.jobs k)) next.wanted).1)

pub stays : (p q : PublisherView) (n k : ℕ) (bytes file : Option (List ℕ)) → q ≡ with_job p k file → n ≢ k → p.jobs n ≡ Some bytes → q.jobs n ≡ Some bytes
stays p q n k bytes file is other job = ap (λ (r : PublisherView). r.jobs n) is ∙ ap (λ b. cond b (Some file) (p.jobs n)) (apart n k other) ∙ job

-- the clause of a job that was taken
pub given : {A E : Type 0} (P : Type 0) (Q : A → Type 0) (r : Result (Option A) E) (o : Option A) (job : A) → r ≡ Ok o → o ≡ Some job → IfOk r (λ o. MatchOption o P Q) → Q job
given P Q r o job ok some said = subst (λ o. MatchOption o P Q) some (subst (λ r. IfOk r (λ o. MatchOption o P Q)) ok said)
