-- What the calls that read, or move the root, decide: row 40 before everything else.
use Rattle.model.specs.Answer.{Answer, refused, answer}
use Rattle.model.specs.Change.{Decision, single}
use Rattle.model.specs.Model.{Model}
use Rattle.model.specs.Run.{Event, decide_event}
use Rattle.state.specs.declared.Witness.{Witness}
use Rattle.sound.specs.Held.{held}

-- what is decided on an event; 40 changes nothing
unfoldable pub decide_on : Answer Model → Event → Decision
decide_on (refused n) e = single (refused n)
decide_on (answer m) e = decide_event m e

abbrev pub event_call : Witness → Event → Decision
event_call w e = decide_on (held w) e
