-- The cache each value of which is sound means what the device beneath it means, and names the faults that the cache names.
use Rattle.device.specs.declared.sector_device.SectorDevice.{Ghosts}
use Rattle.layers.specs.Layer.{passed_on}
use Rattle.sound.specs.declared.sound_cache.SoundCache.{SoundCache}

abbrev pub sound_cache_layer : {D : Type 0} → (g : Ghosts D) → Ghosts (SoundCache D g)
sound_cache_layer g = record {
  meaning = λ d. g.meaning d.cache.beneath;
  sound = λ d. Unit {0};
  faults = λ d. passed_on (g.faults d.cache.beneath);
}
