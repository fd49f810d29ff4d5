use Rattle.std.proofs.Common.{◌≤◌, length, arith}
use Rattle.smf_bytes.specs.Event.{change_bytes}
use Rattle.smf_bytes.proofs.Lengths.{change_in_place}
use Rattle.smf_bytes.proofs.laws.events_in_place.Goals as goal

pub returns-clause-changes : goal.returns-clause-changes
returns-clause-changes c what =
    let short : length (change_bytes what) ≤ 7 = change_in_place what in
    omega (arith, short)

pub returns-clause-note_offs : goal.returns-clause-note_offs
returns-clause-note_offs c channel key tick = omega arith

pub returns-clause-note_ons : goal.returns-clause-note_ons
returns-clause-note_ons c channel key velocity tick = omega arith

pub returns-clause-programs : goal.returns-clause-programs
returns-clause-programs c channel number tick = omega arith
