pub mod FileHost
