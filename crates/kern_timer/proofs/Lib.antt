pub mod CounterPorts
pub mod B02InitTimer
pub mod B03GetTimer
pub mod B04EnableTimerIrq
pub mod B06RestartTimer
pub mod Lawful
pub mod Served
