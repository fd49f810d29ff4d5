-- Laws of the definitions of a publisher. Not in ABC 2.1.
use Rattle.std.specs.Prelude.{◌≡◌, ℕ, ◌<◌, ◌^◌, false, List, Option, None}
use Rattle.abc_publish.specs.Publisher.{PublisherView, with_job, is_pending, is_wanted, IsSettled}
use Rattle.abc_tune_compiler.specs.Files.{Files}

-- Once all is settled no number is pending.
abbrev pub SettledIsCurrent : Type 0
SettledIsCurrent = (p : PublisherView) (files : Files) → IsSettled p files → (n : ℕ) → n < 2 ^ 32
    → is_pending p.directory files n ≡ false

-- If no number is pending and no job is under way, all is settled.
abbrev pub CurrentIsSettled : Type 0
CurrentIsSettled = (p : PublisherView) (files : Files) → ((n : ℕ) → n < 2 ^ 32 → is_pending p.directory files n ≡ false)
    → ((n : ℕ) → p.jobs n ≡ None) → IsSettled p files

-- A number whose job has begun gets no second one.
abbrev pub JobOnce : Type 0
JobOnce = (p : PublisherView) (files : Files) (number : ℕ) (bytes : Option (List ℕ))
    → is_wanted (with_job p number bytes) files number ≡ false
