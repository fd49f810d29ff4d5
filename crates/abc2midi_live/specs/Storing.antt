-- The answers of a store, and what it then contains. Not in ABC 2.1.
use Rattle.std.specs.Prelude.{◌≡◌, ◌≢◌, ℕ, ◌+◌, ◌<◌, ◌^◌, List, [], ◌∷◌, ◌++◌, length, codes, decimal, Option, Some, None, ⊤}
use Rattle.std.specs.FinMap.{get}
use Rattle.abc_fold.specs.Work.{raised}
use Rattle.abc_publish.specs.Publisher.{Directory}
use Rattle.abc_publish.specs.declared.slot.Stored.{Stored}
use Rattle.abc_publish.specs.declared.slot.Stored.TheVariants.{Known, Unknown}
use Rattle.abc2midi_live.specs.Streams.{Contents}

-- The answer of a store to a file that it is to put or to remove.
pub data StoreAnswer : Type 0 where
  Done : StoreAnswer
  Fault : StoreAnswer

-- How many of the answers are faults.
abbrev pub faults_among : List StoreAnswer → ℕ
faults_among [] = 0
faults_among (Done ∷ answers) = faults_among answers
faults_among (Fault ∷ answers) = 1 + faults_among answers

-- The name of the file of a number.
unfoldable pub file_name : ℕ → List ℕ
file_name number = decimal number ++ codes ".mid"

-- The store has the file of the known directory under a name.
abbrev pub IsStored : Option (List ℕ) → Option Stored → Type 0
IsStored found None = found ≡ None
IsStored found (Some (Known bytes)) = found ≡ Some bytes
IsStored found (Some Unknown) = ⊤

-- A store that had some contents at first has the file of the known directory under the name of each number, and its
-- first contents under every other name.
pub record Mirrors (first now : Contents) (directory : Directory) : Type 0 where
  pub files : (n : ℕ) → n < 2 ^ 32 → IsStored (get now (file_name n)) (directory n)
  pub others : (name : List ℕ) → ((n : ℕ) → n < 2 ^ 32 → name ≢ file_name n) → get now name ≡ get first name

-- The same of a store whose contents may be known.
abbrev pub MirrorsWhereTold : Option Contents → Option Contents → Directory → Type 0
MirrorsWhereTold None now directory = ⊤
MirrorsWhereTold (Some first) None directory = ⊥
MirrorsWhereTold (Some first) (Some now) directory = Mirrors first now directory

-- No number has a file in a store whose contents are known.
abbrev pub HasNoFiles : Option Contents → Type 0
HasNoFiles None = ⊤
HasNoFiles (Some contents) = (n : ℕ) → n < 2 ^ 32 → get contents (file_name n) ≡ None

-- The visible state of a store: how often it failed, how often it was called, and its contents, if they are known.
pub record StoreView : Type 0 where
  pub failures : ℕ
  pub calls : ℕ
  pub contents : Option Contents

abbrev pub store_view : ℕ → ℕ → Option Contents → StoreView
store_view failures calls contents = record { failures = failures; calls = calls; contents = contents }

-- A store returned these answers, was called once for each of them, and had no other fault. If it mirrored a directory
-- before, it mirrors another one after them.
pub record Follows (old new : StoreView) (answers : List StoreAnswer) (before after : Directory) : Type 0 where
  pub failures : new.failures ≡ raised old.failures (faults_among answers)
  pub calls : new.calls ≡ raised old.calls (length answers)
  pub contents : (first : Option Contents) → MirrorsWhereTold first old.contents before → MirrorsWhereTold first new.contents after
