-- Counters of scanned lines.
use Rattle.std.proofs.Common.{◌≡◌, ℕ, ◌+◌, ◌-◌, ◌<◌, ◌≤◌, List, [], ◌∷◌, ◌++◌, map, take, length, get_or, sym, ◌∙◌, ap}
use Rattle.std.proofs.Common.{subst, arith}
use Rattle.std.proofs.lemmas.List.{map-append, take_more}
use Rattle.std.specs.Global.{Vec}
use Rattle.abc_lines.specs.Text.{lines_of}
use Rattle.abc_fold.specs.Work.{Counters, raised}
use Rattle.abc_fold.proofs.Raised.{raised-least, raised-raised}
use Rattle.abc_live_text.specs.Row.{IsScannedUpTo}

-- Counters from which k more lines come to no more than `most` lines from the first ones.
pub record IsScanning (before now : Counters) (k most : ℕ) : Type 0 where
  pub folded : now.folded ≡ before.folded
  pub built : now.built ≡ before.built
  pub least : before.scanned ≤ now.scanned
  pub bound : raised now.scanned k ≤ raised before.scanned most

raised_more : (count more k : ℕ) → count ≤ more → raised count k ≤ raised more k
unfolding raised
raised_more count more k h = omega arith

-- One line counted.
pub scanned_once : (before after : Counters) → after ≡ record before { scanned = raised before.scanned 1 } → IsScannedUpTo 1 before after
scanned_once before after is = record {
  folded = ap (λ (c : Counters). c.folded) is;
  built = ap (λ (c : Counters). c.built) is;
  least = rw is (raised-least before.scanned 1);
  most = rw is (omega arith);
}

pub scanning_done : (before now : Counters) (k most : ℕ) → IsScanning before now k most → IsScannedUpTo most before now
scanning_done before now k most within =
    let least = raised-least now.scanned k in
    record { folded = within.folded; built = within.built; least = within.least; most = omega (arith, least, within.bound) }

pub scanning_more : (before now later : Counters) (i count most : ℕ) → i < count → IsScanning before now (count - i) most → IsScannedUpTo 1 now later → IsScanning before later (count - (i + 1)) most
scanning_more before now later i count most inside within raise =
    let k = count - (i + 1) in
    let split : count - i ≡ 1 + k = omega arith in
    record {
      folded = raise.folded ∙ within.folded;
      built = raise.built ∙ within.built;
      least = omega (arith, raise.least, within.least);
      bound =
          let step = raised_more later.scanned (raised now.scanned 1) k raise.most in
          let sum = raised-raised now.scanned 1 k in
          let own : raised now.scanned (1 + k) ≤ raised before.scanned most = subst (λ n. raised now.scanned n ≤ raised before.scanned most) split within.bound in
          omega (arith, step, sum, own);
    }

-- The rows after one more line.
pub rows_next : {A : Type 0} (f : List ℕ → A) (lines : List (Vec ℕ)) (i : ℕ) (line : Vec ℕ) → line ≡ get_or lines i line
    → i < length lines → map f (lines_of (take i lines)) ++ f line.items ∷ [] ≡ map f (lines_of (take (i + 1) lines))
rows_next f lines i line is inside =
    let more = take_more lines i line inside ∙ ap (λ (b : Vec ℕ). take i lines ++ b ∷ []) (sym is) in
    sym (ap (λ l. map f (lines_of l)) more
    ∙ (ap (map f) (map-append (λ (l : Vec ℕ). l.items) (take i lines) (line ∷ []))
    ∙ map-append f (lines_of (take i lines)) (line.items ∷ [])))
