pub mod Hmac
pub mod KeyTexts
pub mod Sealing
