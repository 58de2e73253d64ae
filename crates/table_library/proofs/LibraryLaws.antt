-- The tables of the library have names, are those of their cells, and are in the class: computed.
use Rattle.std.proofs.Common.{◌≡◌, true, refl}
use Rattle.class_relation.specs.Names.{is_name}
use Rattle.class_relation.specs.Tables.{locals_of, answers_of}
use Rattle.table_check.specs.Reached.{reached_within}
use Rattle.table_check.specs.Accepted.{InClass, faults}
use Rattle.table_check.proofs.KnownTables.{uncached_accepted, copy_back_accepted, copy_back_update_accepted, write_through_accepted}
use Rattle.table_library.specs.declared.kinds.Kind.{Kind}
use Rattle.table_library.specs.declared.kinds.Kind.TheVariants.{Invalidate, Update, Through, ThroughBroadcast, Exclusive, Uncached}
use Rattle.table_library.specs.Cells.{table_by}
use Rattle.table_library.specs.Protocols.{protocol_table, write_through_broadcast, exclusive_copy_back}

pub named : (kind : Kind) → is_name (protocol_table kind).name ≡ true
named Invalidate = refl
named Update = refl
named Through = refl
named ThroughBroadcast = refl
named Exclusive = refl
named Uncached = refl

pub by_its_cells :
    (kind : Kind)
    → table_by (protocol_table kind).name (locals_of (protocol_table kind)) (answers_of (protocol_table kind))
    ≡ protocol_table kind
unfolding table_by
by_its_cells Invalidate = refl
by_its_cells Update = refl
by_its_cells Through = refl
by_its_cells ThroughBroadcast = refl
by_its_cells Exclusive = refl
by_its_cells Uncached = refl

write_through_broadcast_accepted : InClass write_through_broadcast
unfolding faults reached_within
write_through_broadcast_accepted = refl

exclusive_accepted : InClass exclusive_copy_back
unfolding faults reached_within
exclusive_accepted = refl

pub accepted : (kind : Kind) → InClass (protocol_table kind)
accepted Invalidate = copy_back_accepted
accepted Update = copy_back_update_accepted
accepted Through = write_through_accepted
accepted ThroughBroadcast = write_through_broadcast_accepted
accepted Exclusive = exclusive_accepted
accepted Uncached = uncached_accepted
