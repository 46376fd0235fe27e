pub mod EighthLaws
pub mod RaisedLaws
