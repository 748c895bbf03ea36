pub mod ByteLaws
pub mod CodecLaws
pub mod FieldLaws
pub mod KeyLaws
pub mod LaneLaws
pub mod LaneWordLaws
pub mod NumberLaws
pub mod PackedLaws
