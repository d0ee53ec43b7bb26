-- The state that a caller begins with, and that it is possible with an empty row.
use Rattle.std.specs.Prelude.{false, List, replicate}
use Rattle.slots.specs.Slots.{slot}
use Rattle.slots.specs.declared.Slot.{Slot}
use Rattle.slots.specs.declared.Status.TheVariants.{Free}
use Rattle.possible.specs.declared.Hca.{Hca}

-- closed (01, Commands: INIT_HCA opens); of a closed state neither counts nor length are looked at
abbrev pub closed_state : Hca
closed_state =
    record { «open» = false; logs = record { qps = 0; cqs = 0; eqs = 0; mpts = 0 }; store_len = 0 }

-- nine slots, of which a program lends the front
abbrev pub nine_free : List Slot
nine_free = replicate 9 (slot Free)
