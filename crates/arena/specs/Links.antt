-- Inner: The fields of `Links` as contracts see them, and what they keep true.
use Rattle.arena.specs.Linked.{Linked, stored, KeepLists}
use Rattle.arena.specs.declared.links.Links.TheInside.{Inside}

abbrev pub links_of : Inside → Linked
links_of l = stored l.slots l.next.items

abbrev pub AreLinks : Inside → Type 0
AreLinks l = KeepLists l.slots l.next.items l.previous.items
