-- The sizes of nodes that a tree may have.
use Rattle.std.specs.Prelude.{ℕ, ◌&&◌, nat_le, Bool}
use Rattle.bt_form.specs.Messages.{Measure}
use Rattle.bt_message.specs.declared.measure.Measure.TheVariants.{Bytes, Messages}

abbrev pub smallest_fanout : ℕ
smallest_fanout = 4

abbrev pub largest_fanout : ℕ
largest_fanout = 64

abbrev pub smallest_buffer : ℕ
smallest_buffer = 1

-- in messages, or in bytes
abbrev pub largest_buffer : Measure → ℕ
largest_buffer Messages = 4096
largest_buffer Bytes = 1048576

abbrev pub smallest_leaf : ℕ
smallest_leaf = 2

abbrev pub largest_leaf : ℕ
largest_leaf = 1024

abbrev pub is_shape : Measure → ℕ → ℕ → ℕ → Bool
is_shape measure fanout buffer leaf =
    (nat_le smallest_fanout fanout && nat_le fanout largest_fanout)
    && (nat_le smallest_buffer buffer && nat_le buffer (largest_buffer measure))
    && (nat_le smallest_leaf leaf && nat_le leaf largest_leaf)
