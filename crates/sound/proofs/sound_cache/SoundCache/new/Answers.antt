use Rattle.sound.proofs.sound_cache.SoundCache.new.Goals as goal

pub invariant_of-result : goal.invariant_of-result
invariant_of-result g c = record { sound = (c.new.ensures.sound (g.met.D.SoundDevice.always _)).1 }
