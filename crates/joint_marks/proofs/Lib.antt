pub mod JointLaws
