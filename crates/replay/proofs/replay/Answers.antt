-- `replay::replay` meets its contract: the header's rows, then every record from offset 37 on. Assumes nothing.
use Rattle.replay.proofs.Onward.{begun-sound, begun_replay, refused_replay}
use Rattle.replay.proofs.replay.Goals as goal

pub read_rest-read-requires : goal.read_rest-read-requires
read_rest-read-requires c =
    begun-sound c.args.w c.args.log.now c.args.limit c.begin-start.result c.begin-start.ensures c.in-Ok.is

pub returns-in-Ok : goal.returns-in-Ok
returns-in-Ok c =
    begun_replay c.args.w c.args.log.now c.args.limit c.begin-start.result c.begin-start.ensures c.in-Ok.is c.read_rest-read.result
    c.read_rest-read.ensures

pub returns-in-Err : goal.returns-in-Err
returns-in-Err c =
    refused_replay c.args.w c.args.log.now c.args.limit c.begin-start.result c.begin-start.ensures _ c.in-Err.is
