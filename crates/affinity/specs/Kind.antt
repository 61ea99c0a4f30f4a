-- Statement for clients: Which kinds of message may change the state, and how many numbers each kind has.
use Rattle.std.specs.Prelude.{ℕ, Bool, true, false}
use Rattle.affinity.specs.declared.kinds.Kind.{Kind}
use Rattle.affinity.specs.declared.kinds.Kind.TheVariants.{MakeVol, DropVol, Create, Delete, Seal, Unseal, Write, Punch, Read, List as ListFiles, Usage, Summary, SetLabel, Label}

-- whether a message of the kind may change what the server holds
abbrev pub is_changing : Kind → Bool
is_changing MakeVol = true
is_changing DropVol = true
is_changing Create = true
is_changing Delete = true
is_changing Seal = true
is_changing Unseal = true
is_changing Write = true
is_changing Punch = true
is_changing Read = false
is_changing ListFiles = false
is_changing Usage = false
is_changing Summary = false
is_changing SetLabel = true
is_changing Label = false

-- how many numbers a message of the kind has: the first ones of aggregate, volume, file and block
abbrev pub number_count : Kind → ℕ
number_count MakeVol = 2
number_count DropVol = 2
number_count Create = 3
number_count Delete = 3
number_count Seal = 2
number_count Unseal = 2
number_count Write = 4
number_count Punch = 4
number_count Read = 4
number_count ListFiles = 2
number_count Usage = 2
number_count Summary = 0
number_count SetLabel = 2
number_count Label = 2
