-- `answers::sound` meets its contract: row 40. Assumes nothing.
use mathlib.Core.Path.{refl, sym, ◌∙◌}
use Rattle.state.proofs.Sound.{sound_true}
use Rattle.answers.proofs.sound.Goals as goal

pub returns-then-is_sound : goal.returns-then-is_sound
returns-then-is_sound c = sound_true c.args.w c.is_sound.ensures.1 (sym c.is_sound.ensures.0 ∙ c.if-is_sound.true)

pub returns-else-is_sound : goal.returns-else-is_sound
returns-else-is_sound c = (refl, sym c.is_sound.ensures.0 ∙ c.if-is_sound.false)
