-- The rows of a map, and the messages that change them: their effects and their load.
pub use Rattle.bt_message.specs.Effects.{Rows, with_value, rows_after, value_after}
pub use Rattle.bt_message.specs.Messages.{Messages, with_message, with_messages, messages_before as before, messages_from as from, messages_between as between}
pub use Rattle.bt_message.specs.Meanings.{Meaning}
pub use Rattle.bt_message.specs.Weights.{load}
pub use Rattle.bt_message.specs.declared.measure.Measure.{Measure}
