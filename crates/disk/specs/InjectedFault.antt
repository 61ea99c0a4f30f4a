-- Statement for engineers: Injected faults, by which a test lets a device in memory fail.
use Rattle.std.specs.Prelude.{◌-◌, if◌then◌else◌, Bool, false, nat_le}
use Rattle.disk.specs.declared.injected_fault.InjectedFault.{InjectedFault}
use Rattle.disk.specs.declared.injected_fault.InjectedFault.TheVariants.{Off, FailAt, StopAt}

-- whether the next call fails
abbrev pub fails_next : InjectedFault → Bool
fails_next Off = false
fails_next (FailAt n) = nat_le n 1
fails_next (StopAt n) = nat_le n 1

-- the injected fault after a call
abbrev pub counted_down : InjectedFault → InjectedFault
counted_down Off = Off
counted_down (FailAt n) = if nat_le n 1 then Off else FailAt (n - 1)
counted_down (StopAt n) = if nat_le n 1 then StopAt n else StopAt (n - 1)
