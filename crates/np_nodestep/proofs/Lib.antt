mod Respelled
