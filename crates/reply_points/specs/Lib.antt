pub mod ReplyPoints
