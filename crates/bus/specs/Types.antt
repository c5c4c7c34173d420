-- The types of the lower crates (a packet, the three sorts, a state and its parts), under one name for this crate's files. Assumes nothing.
pub use Rattle.rules.specs.declared.Slot.{Slot}
pub use Rattle.rules.specs.declared.Packet.{Packet}
pub use Rattle.sorts.specs.declared.Address.{Address}
pub use Rattle.sorts.specs.declared.Capability.{Capability}
pub use Rattle.state.specs.declared.Settings.{Settings}
pub use Rattle.state.specs.declared.Listed.{Listed}
pub use Rattle.state.specs.declared.Contender.{Contender}
pub use Rattle.state.specs.declared.Contention.{Contention}
pub use Rattle.state.specs.declared.Round.{Round}
pub use Rattle.state.specs.declared.Segment.{Segment}
pub use Rattle.state.specs.declared.Queues.{Queues}
pub use Rattle.state.specs.declared.State.{State}
pub use Rattle.state.specs.Parts.{Queue}
pub use Rattle.state.specs.declared.Arrival.{Arrival}
