-- Tuplets. ABC 2.1 section 4.13.
use Rattle.std.specs.Prelude.{◌≤◌, ℕ, ◌-◌, ◌==◌, ◌&&◌, ◌||◌, nat_lt, nat_le, Bool, false, if◌then◌else◌, unwrap_or, List, [], ◌∷◌}
use Rattle.std.specs.Prelude.{Option, Some, None}
use Rattle.abc_fields.specs.declared.fault_code.FaultCode.{FaultCode}
use Rattle.abc_fields.specs.declared.fault_code.FaultCode.TheVariants.{BadTuplet, NestedTuplet}
use Rattle.abc_fields.specs.declared.meter.Meter.{Meter}
use Rattle.abc_fields.specs.declared.meter.Meter.TheVariants.{Free, Of}
use Rattle.abc_scan.specs.declared.tuplet.Tuplet.{Tuplet}
use Rattle.abc_time.specs.declared.ratio.Ratio.{Ratio}
use Rattle.abc_bars_voice.specs.declared.tuplet.TheConstants.{LARGEST_TUPLET_NUMBER}

-- A number that a tuplet may have. Not in ABC 2.1.
pub record IsTupletNumber (n : ℕ) : Type 0 where
  pub least : 1 ≤ n
  pub most : n ≤ LARGEST_TUPLET_NUMBER

-- An open tuplet: notes come p in the time of q, and `left` notes, chords and rests are left of it.
pub record OpenTuplet : Type 0 where
  pub p : ℕ
  pub q : ℕ
  pub left : ℕ

-- Each number of an open tuplet is one that a tuplet may have.
pub record IsOpen (tuplet : OpenTuplet) : Type 0 where
  pub p_is : IsTupletNumber tuplet.p
  pub q_is : IsTupletNumber tuplet.q
  pub left_is : IsTupletNumber tuplet.left

-- Whether a tuplet may have the number.
abbrev pub is_tuplet_number : ℕ → Bool
is_tuplet_number n = nat_le 1 n && nat_le n LARGEST_TUPLET_NUMBER

-- 6/8, 9/8 and 12/8, in which the beat has three parts.
abbrev pub is_compound : Meter → Bool
is_compound Free = false
is_compound (Of num den) = (den == 8) && ((num == 6) || (num == 9) || (num == 12))

-- The number of notes whose time p of them take, if q is not written (ABC 2.1 section 4.13; for p outside 2 to 9 not in
-- ABC 2.1).
abbrev pub default_q : Meter → ℕ → ℕ
default_q meter p =
    if (p == 2) || (p == 4) || (p == 8) then 3
    else if (p == 3) || (p == 6) then 2
    else if is_compound meter then 3 else 2

-- The tuplet of p notes in the time of q that takes r, if a tuplet may have each of these numbers.
abbrev pub tuplet_with : ℕ → ℕ → ℕ → Option OpenTuplet
tuplet_with p q r =
    if is_tuplet_number p && is_tuplet_number q && is_tuplet_number r then Some (record { p = p; q = q; left = r }) else None

-- The tuplet that a mark begins, if its numbers are accepted: without r it takes p notes.
abbrev pub tuplet_by : Meter → Tuplet → Option OpenTuplet
tuplet_by meter mark = tuplet_with mark.p (unwrap_or mark.q (default_q meter mark.p)) (unwrap_or mark.r mark.p)

-- The open tuplet after a mark of this new one, and the mark's fault: a refused mark leaves the open tuplet as it is,
-- another one replaces it. Not in ABC 2.1.
abbrev pub tuplet_after_mark : Option OpenTuplet → Option OpenTuplet → Option OpenTuplet × Option FaultCode
tuplet_after_mark old None = (old, Some BadTuplet)
tuplet_after_mark None (Some new) = (Some new, None)
tuplet_after_mark (Some old) (Some new) = (Some new, Some NestedTuplet)

-- The open tuplet after a mark, and the mark's fault.
abbrev pub begin_tuplet : Meter → Option OpenTuplet → Tuplet → Option OpenTuplet × Option FaultCode
begin_tuplet meter open_before mark = tuplet_after_mark open_before (tuplet_by meter mark)

-- What is left of the open tuplet after one more note, chord or rest.
abbrev pub count_down : Option OpenTuplet → Option OpenTuplet
count_down None = None
count_down (Some tuplet) = if nat_lt 1 tuplet.left then Some (record tuplet { left = tuplet.left - 1 }) else None

-- The factor of a tuplet's lengths.
abbrev pub tuplet_ratio : OpenTuplet → Ratio
tuplet_ratio tuplet = record { num = tuplet.q; den = tuplet.p }

-- The factor of the open tuplet, if there is one.
abbrev pub tuplet_factors : Option OpenTuplet → List Ratio
tuplet_factors None = []
tuplet_factors (Some tuplet) = tuplet_ratio tuplet ∷ []
