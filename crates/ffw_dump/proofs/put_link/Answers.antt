-- `ffw_dump::put_link` meets its contract: a name has 32 bytes.
use Rattle.std.proofs.Common.{sym, arith, length-take-le}
use Rattle.ffw_dump.proofs.put_link.Goals as goal

pub slice_bounds-source-end : goal.slice_bounds-source-end
slice_bounds-source-end c = sym (length-take-le 32 c.args.link.now (omega (arith, c.requires.0)))

pub put_name-to-requires : goal.put_name-to-requires
put_name-to-requires c =
    (length-take-le 32 c.args.link.now (omega (arith, c.requires.0)), omega (arith, c.requires.1))
