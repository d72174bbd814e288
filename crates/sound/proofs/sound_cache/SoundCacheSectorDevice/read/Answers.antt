use Rattle.sound.proofs.sound_cache.SoundCacheSectorDevice.read.Goals as goal

pub invariant_of-self : goal.invariant_of-self
invariant_of-self g c = let d = c.args.self.now in
    record { sound = (c.read.ensures.stays (g.met.D.SoundDevice.always d.cache.beneath, d.sound)).1 }
