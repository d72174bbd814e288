use Rattle.trials.proofs.sound_calls.write_entry.Goals as goal

pub returns-clause-runs : goal.returns-clause-runs
returns-clause-runs g c = c.write_entry.ensures.runs (g.met.D.SoundDevice.always _)
