-- Jobs that a caller holds. Not in ABC 2.1.
use Rattle.std.specs.Prelude.{◌≡◌, ◌≢◌, ⊤, Some}
use Rattle.abc_publish.specs.Publisher.{PublisherView}
use Rattle.tests_live.specs.declared.held_jobs.HeldJobs.{HeldJobs}
use Rattle.tests_live.specs.declared.held_jobs.HeldJobs.TheVariants.{Nothing, One, Two}

-- The caller's jobs are under way, for different numbers.
abbrev pub IsUnderWay : PublisherView → HeldJobs → Type 0
IsUnderWay p Nothing = ⊤
IsUnderWay p (One job) = p.jobs job.number ≡ Some job.bytes
IsUnderWay p (Two older newer) = (p.jobs older.number ≡ Some older.bytes) × (p.jobs newer.number ≡ Some newer.bytes)
    × (older.number ≢ newer.number)
