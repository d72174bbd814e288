use Rattle.places.proofs.Frames.{layouts_sound, writes_refine_lem}
use Rattle.places.proofs.writes_refine.Goals as goal

pub returns : goal.returns
returns c = record { layouts = layouts_sound; writes = writes_refine_lem }
