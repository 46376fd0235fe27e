-- The definitions of the joint marks.
pub mod Joint
