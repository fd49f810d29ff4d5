-- The time of grace notes. ABC 2.1 section 4.12.
use Rattle.std.specs.Prelude.{◌≡◌, ℕ, ◌+◌, ◌/◌, ◌<◌, ◌≤◌, nat_le, if◌then◌else◌, List, length, sum_by}
use Rattle.abc_time.specs.declared.grains.Grains.{Grains}
use Rattle.abc_perform_note.specs.declared.grace.GraceShare.{GraceShare}
use Rattle.abc_perform_note.specs.declared.grace.GraceShare.TheVariants.{Wanted, Equal}

-- How much time grace notes want together. Not in ABC 2.1.
abbrev pub wanted_time : List Grains → ℕ
wanted_time wants = sum_by (λ want. want.0) wants

-- What a grace note takes. Not in ABC 2.1.
abbrev pub taken : GraceShare → Grains → Grains
taken Wanted want = want
taken (Equal share) want = share

-- What grace notes take: what they want, or equal shares of the half of the note if they want more. Not in ABC 2.1.
abbrev pub grace_share : List Grains → ℕ → GraceShare
grace_share wants half =
    if nat_le (wanted_time wants) half then Wanted else Equal (record { 0 = half / length wants })

-- How much time grace notes take together. Not in ABC 2.1.
abbrev pub taken_time : GraceShare → List Grains → ℕ
taken_time share wants = sum_by (λ want. (taken share want).0) wants

-- Grace notes take no more than the half. They take what they want if there is room for it; if not, all take the same, and
-- one grain more for each would be too much. Not in ABC 2.1.
pub record IsShareOfHalf (wants : List Grains) (half : ℕ) (share : GraceShare) : Type 0 where
  pub together : taken_time share wants ≤ half
  pub wanted : wanted_time wants ≤ half → share ≡ Wanted
  pub most : half < wanted_time wants → half < taken_time share wants + length wants
