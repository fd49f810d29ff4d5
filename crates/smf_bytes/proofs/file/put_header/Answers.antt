use Rattle.smf_bytes.proofs.Files.{header_put}
use Rattle.smf_bytes.proofs.file.put_header.Goals as goal

pub returns : goal.returns
returns c =
    let whole = header_put c.args.out.now.items c.args.tracks in
    let a = c.in_ok-extend_from_slice.ensures.items in
    let b = c.in_ok-put_u32.ensures in
    let d = c.in_ok-put_u16.ensures in
    let e = c.in_ok-put_u16-2.ensures in
    let f = c.in_ok-put_u16-3.ensures in
    cc
