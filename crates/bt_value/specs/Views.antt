-- How contracts see borrowed values.
use Rattle.bt_value.specs.Kinds.{Content, Number, Bytes, Bit}
pub use Rattle.bt_value.specs.Kinds.{value_of_ref}
use Rattle.bt_value.specs.declared.value.Content as lent
use Rattle.bt_value.specs.declared.value.Content.TheVariants as lent_in

-- the content that a borrowed content represents
abbrev pub content_of_ref : lent.Content → Content
content_of_ref (lent_in.Number n) = Number n
content_of_ref (lent_in.Bytes bytes) = Bytes bytes.now
content_of_ref (lent_in.Bit bit) = Bit bit
