-- Statement for engineers: Which faults of its opening the bytes of a device may show.
use Rattle.recovery.specs.declared.fault.OpenFault.{OpenFault}
use Rattle.recovery.specs.declared.fault.OpenFault.TheVariants.{Device, OutOfMemory}

-- The bytes of a device may show this fault. They don't show that the device fails, or that there is no memory.
abbrev pub IsShownByBytes : OpenFault → Type 0
IsShownByBytes Device = ⊥
IsShownByBytes OutOfMemory = ⊥
IsShownByBytes fault = Unit {0}
