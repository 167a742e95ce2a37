pub mod HostCalls
pub mod Wide
