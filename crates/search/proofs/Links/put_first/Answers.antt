use mathlib.Core.Path.{refl}
use Rattle.search.proofs.Chains.{indexed-more}
use Rattle.search.proofs.Links.put_first.Goals as goal

pub returns : goal.returns
returns c = (refl, indexed-more c.requires.1 c.args.x c.requires.0)
