-- `ffw_dump::put_header` meets its contract: the mark has three bytes, and the root's name 32.
use Rattle.std.proofs.Common.{drop, arith, length-drop, length-take-le}
use Rattle.ffw_dump.proofs.put_header.Goals as goal

pub put_name-end-requires : goal.put_name-end-requires
put_name-end-requires c =
    let head = c.args.head.now in (
      length-take-le 32 (drop 5 head) (omega (arith, length-drop 5 head, c.requires.0)),
      omega (arith, length-take-le 3 head (omega (arith, c.requires.0)), c.put-mark.ensures.past, c.put_hex-version.ensures, c.put_field-root.ensures, c.put_field-root.auto.out, c.put_hex-version.auto.out, c.put-mark.auto.buf, c.requires.1),
    )

pub put-requires : goal.put-requires
put-requires c =
    let head = c.args.head.now in
    omega (arith, length-take-le 3 head (omega (arith, c.requires.0)), c.put-mark.ensures.past, c.put_hex-version.ensures, c.put_field-root.ensures, c.put_name-end.ensures, c.put_name-end.auto.out, c.put_field-root.auto.out, c.put_hex-version.auto.out, c.put-mark.auto.buf, c.requires.1)
