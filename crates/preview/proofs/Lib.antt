pub mod PointLaws
pub mod RunLaws
pub mod PictureLaws
pub mod DrawnLaws
pub mod Values
