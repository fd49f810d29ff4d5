-- What a directory of files is known to hold, the jobs that are under way, and how both differ from a book. Not in ABC 2.1.
use Rattle.std.specs.Prelude.{◌≡◌, ℕ, ◌<◌, ◌≤◌, ◌^◌, ◌==◌, ◌&&◌, ◌||◌, Bool, true, false, not, if◌then◌else◌, List, Option, Some, None}
use Rattle.std.specs.Prelude.{MatchOption, is_none, is_some}
use Rattle.std.specs.Str.{bytes_eq}
use Rattle.std.specs.BTreeMap.{is_at}
use Rattle.std.specs.Map.{lookup}
use Rattle.std.specs.Ordering.{nat_cmp}
use Rattle.abc_publish.specs.declared.job.Job.{Job}
use Rattle.abc_tune_compiler.specs.Files.{Files, file_at}
pub use Rattle.abc_publish.specs.declared.slot.Stored.{Stored}
pub use Rattle.abc_publish.specs.declared.slot.Stored.TheVariants.{Known, Unknown}

-- What the directory holds for each number; None if it has no file.
abbrev pub Directory : Type 0
Directory = ℕ → Option Stored

-- What the job of each number carries, if one is under way: the bytes to write, or None to remove the file.
abbrev pub Jobs : Type 0
Jobs = ℕ → Option (Option (List ℕ))

-- A directory, and the jobs under way.
pub record PublisherView : Type 0 where
  pub directory : Directory
  pub jobs : Jobs

abbrev pub publishing_of : Directory → Jobs → PublisherView
publishing_of directory jobs = record { directory = directory; jobs = jobs }

-- What a publisher holds for a number: its entry of the directory, and what the job carries, if one is under way.
pub record SlotView : Type 0 where
  pub stored : Option Stored
  pub job_bytes : Option (Option (List ℕ))

abbrev pub slot_view : Option Stored → Option (Option (List ℕ)) → SlotView
slot_view stored job_bytes = record { stored = stored; job_bytes = job_bytes }

-- What a publisher holds, by number.
abbrev pub Slots : Type 0
Slots = List (ℕ × SlotView)

-- What a publisher holds for a number, if it has a slot.
abbrev pub slot_at : Slots → ℕ → Option SlotView
slot_at slots n = lookup (is_at (nat_cmp n)) slots

-- Whether a number has a slot or a file.
abbrev pub has_slot_or_file : Slots → Files → ℕ → Bool
has_slot_or_file slots files n = is_some (slot_at slots n) || is_some (file_at files n)

-- The entry of the directory that a slot has; without a slot there is no file.
abbrev pub stored_of : Option SlotView → Option Stored
stored_of None = None
stored_of (Some slot) = slot.stored

-- What the job of a slot carries.
abbrev pub job_bytes_of : Option SlotView → Option (Option (List ℕ))
job_bytes_of None = None
job_bytes_of (Some slot) = slot.job_bytes

-- The directory and the jobs under way of a publisher.
abbrev pub maps_of : Slots → PublisherView
maps_of slots = publishing_of (λ n. stored_of (slot_at slots n)) (λ n. job_bytes_of (slot_at slots n))

-- A map with another entry at a number.
abbrev pub with_entry : {A : Type 0} → (ℕ → Option A) → ℕ → Option A → ℕ → Option A
with_entry map number entry n = if n == number then entry else map n

-- The entry of a file that was written with these bytes, or removed.
abbrev pub stored_as : Option (List ℕ) → Option Stored
stored_as None = None
stored_as (Some bytes) = Some (Known bytes)

-- Whether what the directory holds differs from the file that a book has, or is unknown.
abbrev pub differs : Option Stored → Option (List ℕ) → Bool
differs None None = false
differs None (Some file) = true
differs (Some (Known bytes)) None = true
differs (Some (Known bytes)) (Some file) = not (bytes_eq bytes file)
differs (Some Unknown) None = true
differs (Some Unknown) (Some file) = true

-- Whether a number is pending: the directory differs from the files there, or is unknown.
abbrev pub is_pending : Directory → Files → ℕ → Bool
is_pending directory files n = differs (directory n) (file_at files n)

-- Whether a number is pending and has no job under way.
abbrev pub is_wanted : PublisherView → Files → ℕ → Bool
is_wanted p files n = is_pending p.directory files n && is_none (p.jobs n)

-- The number is the least from another one on that is pending and has no job under way.
pub record IsNext (p : PublisherView) (files : Files) (from number : ℕ) : Type 0 where
  pub inside : from ≤ number
  pub wanted : is_wanted p files number ≡ true
  pub least : (n : ℕ) → from ≤ n → n < number → is_wanted p files n ≡ false

-- No number from another one on is pending without a job under way.
abbrev pub HasNone : PublisherView → Files → ℕ → Type 0
HasNone p files from = (n : ℕ) → from ≤ n → n < 2 ^ 32 → is_wanted p files n ≡ false

-- A job for the least such number, which carries the number's file; none exactly if there is no such number.
abbrev pub IsNextJob : PublisherView → Files → ℕ → Option Job → Type 0
IsNextJob p files from job =
    MatchOption job (HasNone p files from) (λ j. IsNext p files from j.number × (j.bytes ≡ file_at files j.number))

-- A job for a number has begun, and nothing else changed.
abbrev pub with_job : PublisherView → ℕ → Option (List ℕ) → PublisherView
with_job p number bytes = publishing_of p.directory (with_entry p.jobs number (Some bytes))

-- The job that was taken has begun, and nothing else changed; if there was none, nothing did.
abbrev pub HasBegun : Slots → Slots → Option Job → Type 0
HasBegun old new job = MatchOption job (new ≡ old) (λ j. maps_of new ≡ with_job (maps_of old) j.number j.bytes)

-- The job of a number has ended, and the directory holds this for it.
abbrev pub without_job : PublisherView → ℕ → Option Stored → PublisherView
without_job p number stored = publishing_of (with_entry p.directory number stored) (with_entry p.jobs number None)

-- Nothing is pending and no job is under way.
pub record IsSettled (p : PublisherView) (files : Files) : Type 0 where
  pub current : (n : ℕ) → n < 2 ^ 32 → p.directory n ≡ stored_as (file_at files n)
  pub idle : (n : ℕ) → p.jobs n ≡ None
